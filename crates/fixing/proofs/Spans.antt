-- Laws of the entries of a stack of parts: what stands at them one after another, and what a change above them leaves.
use Prim.Native.Nat.{ℕ, suc, zero, ◌+◌, ◌-◌, ◌≤◌, ◌<◌}
use native.Mathlib.Omega.{arith}
use mathlib.Core.Path.{◌≡◌, refl, sym, ap, ap₂, subst, ◌∙◌}
use mathlib.Core.List.Memᴰ.{head as at_head}
use mathlib.Core.List.Memᴰ.{tail as in_Tail}
use mathlib.Core.List.{List, [], ◌∷◌, ◌++◌, map, Memᴰ as In}
use lib.ListN.{length, get_or, take, drop, length-append, length-drop}
use lib.Seq.{drop-cons, length-take-le, take_at, get_or_at, get_or-take}
use Rattle.forms.specs.Gathering.{extend}
use Rattle.forms.specs.Sorting.{total}
use Rattle.forms.proofs.Members.{All}
use Rattle.fixing.specs.Gathered.{span, parts, Climbs}

suc_right : (n m : ℕ) → n + suc m ≡ suc n + m
suc_right n m = omega arith

none_left : (n : ℕ) → n ≡ 0 + n
none_left n = omega arith

none_right : (n : ℕ) → n + 0 ≡ n
none_right n = omega arith

module _ (key : ℕ → List ℕ) (entries : List ℕ) where
  pub span-append : (lo n m : ℕ) → span key entries lo n ++ span key entries (lo + n) m ≡ span key entries lo (n + m)
  unfolding span
  span-append lo zero m = ap₂ (λ x k. span key entries x k) (none_right lo) (none_left m)
  span-append lo (suc n) m =
      ap (λ l. key (get_or entries lo 0) ∷ l) (ap (λ x. span key entries (suc lo) n ++ span key entries x m) (suc_right lo n) ∙ span-append (suc lo) n m)
      ∙ ap (λ k. span key entries lo k) (more n m)
    where
      more : (n m : ℕ) → suc (n + m) ≡ suc n + m
      more n m = omega arith

  pub span-one : (lo : ℕ) → span key entries lo 1 ≡ key (get_or entries lo 0) ∷ []
  unfolding span
  span-one lo = refl

  pub span-list : (lo n : ℕ) → lo + n ≤ length entries → span key entries lo n ≡ map key (take n (drop lo entries))
  unfolding span
  span-list lo zero h = refl
  span-list lo (suc n) h = ap (λ l. key (get_or entries lo 0) ∷ l) (span-list (suc lo) n (omega arith)) ∙ ap (λ l. map key (take (suc n) l)) (sym (drop-cons entries lo 0 (omega arith)))

  -- words put behind the last of them
  pub span-extend : (lo n : ℕ) (v : List ℕ) → extend (span key entries lo (suc n)) v ≡ span key entries lo n ++ ((key (get_or entries (lo + n) 0) ++ v) ∷ [])
  unfolding span extend
  span-extend lo zero v = ap (λ x. (key (get_or entries x 0) ++ v) ∷ []) (sym (none_right lo))
  span-extend lo (suc n) v = ap (λ l. key (get_or entries lo 0) ∷ l) (span-extend (suc lo) n v ∙ ap (λ x. span key entries (suc lo) n ++ ((key (get_or entries x 0) ++ v) ∷ [])) (sym (suc_right lo n)))

-- the entry at which a member of a list of entries stands
pub record Standing (entries : List ℕ) (lo n p : ℕ) : Type 0 where
  pub at : ℕ
  pub from : lo ≤ at
  pub before_end : at < lo + n
  pub is : p ≡ get_or entries at 0

pub standing : (entries : List ℕ) (lo n p : ℕ) → lo + n ≤ length entries → In p (take n (drop lo entries)) → Standing entries lo n p
standing entries lo zero p h m = elim m [ ]
standing entries lo (suc n) p h m = pick (subst (λ l. In p (take (suc n) l)) (drop-cons entries lo 0 (omega arith)) m) (standing entries (suc lo) n p (omega arith))
  where
    pick : In p (get_or entries lo 0 ∷ take n (drop (suc lo) entries)) → (In p (take n (drop (suc lo) entries)) → Standing entries (suc lo) n p) → Standing entries lo (suc n) p
    pick (at_head e) f = record { at = lo; from = omega arith; before_end = omega arith; is = e }
    pick (in_Tail i) f = let s = f i in record { at = s.at; from = omega (arith, s.from); before_end = omega (arith, s.before_end); is = s.is }

module _ (key key' : ℕ → List ℕ) (entries entries' : List ℕ) where
  abbrev pub Same : ℕ → ℕ → Type 0
  Same lo c = (j : ℕ) → lo ≤ j → j < c → key' (get_or entries' j 0) ≡ key (get_or entries j 0)

  pub span_same : (lo n : ℕ) → Same lo (lo + n) → span key' entries' lo n ≡ span key entries lo n
  unfolding span
  span_same lo zero f = refl
  span_same lo (suc n) f = ap₂ (λ a l. a ∷ l) (f lo (omega arith) (omega arith)) (span_same (suc lo) n (λ j h i. f j (omega arith) (omega arith)))

  pub parts_same : (starts starts' : List ℕ) (d c : ℕ) → Climbs starts d c → ((k : ℕ) → k < d → get_or starts' k 0 ≡ get_or starts k 0) → Same 0 c
      → parts key' entries' starts' d c ≡ parts key entries starts d c
  unfolding parts
  parts_same starts starts' zero c u f g = refl
  parts_same starts starts' (suc d) c u f g =
      ap (λ s. span key' entries' s (c - s) ∷ parts key' entries' starts' d s) (f d (omega arith))
      ∙ ap₂ (λ x l. x ∷ l) (span_same (get_or starts d 0) (c - get_or starts d 0) (λ j h i. g j (omega arith) (omega (arith, u.0)))) (parts_same starts starts' d (get_or starts d 0) u.1 (λ k h. f k (omega arith)) (λ j h i. g j h (omega (arith, u.0))))

-- parts have at least one entry each
pub climbs_low : (starts : List ℕ) (d c : ℕ) → Climbs starts d c → d ≤ c
climbs_low starts zero c u = omega arith
climbs_low starts (suc d) c u = let h = climbs_low starts d (get_or starts d 0) u.1 in omega (arith, h, u.0)

pub climbs_same : (starts starts' : List ℕ) (d c : ℕ) → ((k : ℕ) → k < d → get_or starts' k 0 ≡ get_or starts k 0) → Climbs starts d c → Climbs starts' d c
climbs_same starts starts' zero c f u = tt
climbs_same starts starts' (suc d) c f u =
    (rw (f d (omega arith)) u.0, rw (f d (omega arith)) (climbs_same starts starts' d (get_or starts d 0) (λ k h. f k (omega arith)) u.1))

pub total_same : (f g : ℕ → ℕ) (l : List ℕ) → All (λ p. f p ≡ g p) l → total f l ≡ total g l
unfolding total
total_same f g [] h = refl
total_same f g (s ∷ l) h = ap₂ ◌+◌ (h s (at_head refl)) (total_same f g l (λ p m. h p (in_Tail m)))

-- the elements of a list from place k to place e
pub part_length : (l : List ℕ) (k e : ℕ) → e ≤ length l → k < e → length (take (e - k) (drop k l)) ≡ e - k
part_length l k e h i = length-take-le (e - k) (drop k l) (omega (arith, length-drop k l))

-- a list whose elements from place k to place e came back as v
pub record PutBack (l v : List ℕ) (k : ℕ) (l' : List ℕ) : Type 0 where
  pub long : length l' ≡ length l
  pub below : take k l' ≡ take k l
  pub first : get_or l' k 0 ≡ get_or v 0 0

pub put_back : (l v : List ℕ) (k e : ℕ) → k < e → e ≤ length l → length v ≡ e - k → PutBack l v k (take k l ++ (v ++ drop (e - k) (drop k l)))
put_back l v k e h i j =
    record {
      long = omega (arith, length-append (take k l) (v ++ drop (e - k) (drop k l)), length-append v (drop (e - k) (drop k l)), length-take-le k l (omega arith), length-drop (e - k) (drop k l), length-drop k l);
      below = take_at (take k l) (v ++ drop (e - k) (drop k l)) k (length-take-le k l (omega arith));
      first = behind v j;
    }
  where
    behind : (v : List ℕ) → length v ≡ e - k → get_or (take k l ++ (v ++ drop (e - k) (drop k l))) k 0 ≡ get_or v 0 0
    behind [] j = absurd (omega arith)
    behind (a ∷ v) j = get_or_at (take k l) a (v ++ drop (e - k) (drop k l)) 0 k (length-take-le k l (omega arith))

-- what stands before them is as it was
pub put_back-below : {l v l' : List ℕ} {k : ℕ} → PutBack l v k l' → (j : ℕ) → j < k → get_or l' j 0 ≡ get_or l j 0
put_back-below {l} {v} {l'} {k} p j h = sym (get_or-take k l' j 0 h) ∙ (ap (λ m. get_or m j 0) p.below ∙ get_or-take k l j 0 h)
