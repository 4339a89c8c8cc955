-- Summands linked one behind another spell the sum grouped to the left, and nothing but their last links changes.
use Prim.Native.Nat.{ℕ, ◌+◌, ◌≤◌, ◌<◌}
use native.Mathlib.Omega.{arith}
use mathlib.Core.Path.{◌≡◌, refl, sym, ap, subst, ◌∙◌}
use mathlib.Core.Logic.{◌⊎◌, inl, inr}
use mathlib.Core.List.Memᴰ.{head as at_head}
use mathlib.Core.List.Memᴰ.{tail as in_Tail}
use mathlib.Core.List.{List, [], ◌∷◌, ◌++◌, map, append_assoc, Memᴰ as In}
use lib.ListN.{length, get_or, set, length-set, get_or-eq_default}
use lib.Seq.{get_or-set_same, get_or-set_other}
use Rattle.areas.specs.Area.{most_words}
use Rattle.forms.specs.Gathering.{join, joined}
use Rattle.forms.proofs.Members.{All}
use Rattle.chains.specs.Chain.{word_at, after, walk, place, end_of, link_on, linked, last}
use Rattle.chains.proofs.Paths.{Agree, Spells, after-place, spells_lower, spells_kept, spells_append, spells_sign}

place_same : (p : ℕ) → p < most_words → place p ≡ p
unfolding place
place_same p h = omega arith

pub end_low : (ends : List ℕ) (p : ℕ) → end_of ends p < most_words
unfolding end_of place
end_low ends p = omega arith

module _ (ws ends : List ℕ) (key : ℕ → List ℕ) (lo u : ℕ) (few : length ws ≤ most_words) (high : u ≤ most_words) where
  -- a summand with the words `key p` stands from place p to its end, within lo and u
  pub record Fits (links : List ℕ) (p : ℕ) : Type 0 where
    pub from : lo ≤ p
    pub begins : p ≤ end_of ends p
    pub before_u : end_of ends p < u
    pub spells : Spells ws links p (end_of ends p) p (key p)

  -- of two summands one stands behind the other
  abbrev pub Disjoint : ℕ → ℕ → Type 0
  Disjoint p q = (end_of ends p < q) ⊎ (end_of ends q < p)

  pub data Apart : List ℕ → Type 0 where
    nobody : Apart []
    apart : {p : ℕ} {l : List ℕ} → All (Disjoint p) l → Apart l → Apart (p ∷ l)

  -- the words behind the first summand
  abbrev pub behind : List ℕ → List ℕ
  behind rs = joined (map key rs) ++ (word_at ws u ∷ [])

  -- what linking summands, s and those behind it, makes of the links
  pub record Tied (links links' : List ℕ) (sign s : ℕ) (rs : List ℕ) : Type 0 where
    pub long : length links' ≡ most_words
    pub frame : (x : ℕ) → ((p : ℕ) → In p (s ∷ rs) → x ≡ end_of ends p → ⊥) → get_or links' x 0 ≡ get_or links x 0
    pub next : ℕ
    pub goes : after links' (end_of ends s) ≡ sign + next
    pub spells : Spells ws links' lo u next (behind rs)

  sign_word : (x : ℕ) → word_at ws (most_words + x) ≡ 64
  unfolding word_at
  sign_word x = get_or-eq_default ws 64 (omega arith)

  last_word : (links : List ℕ) → Spells ws links lo u u (word_at ws u ∷ [])
  unfolding walk
  last_word links = record { path = last; words = refl }

  set_at : (links : List ℕ) (p v : ℕ) → length links ≡ most_words → after (set links (end_of ends p) v) (end_of ends p) ≡ v
  set_at links p v l = after-place _ _ (end_low ends p) ∙ get_or-set_same links (end_of ends p) v 0 (omega (arith, end_low ends p))

  set_off : (links : List ℕ) (s v x : ℕ) → (x ≡ end_of ends s → ⊥) → get_or (set links (end_of ends s) v) x 0 ≡ get_or links x 0
  set_off links s v x f = get_or-set_other links (end_of ends s) x v 0 f

  -- a place within one summand is not the end of another
  clear : (s p x : ℕ) → Disjoint s p → s ≤ end_of ends s → p ≤ x → x ≤ end_of ends p → x ≡ end_of ends s → ⊥
  clear s p x (inl h) i j k e = omega arith
  clear s p x (inr h) i j k e = omega arith

  turned : {p q : ℕ} → Disjoint p q → Disjoint q p
  turned (inl h) = inr h
  turned (inr h) = inl h

  -- so a link written at the end of one leaves the other
  fits_still : (links : List ℕ) (s v p : ℕ) → Disjoint s p → s ≤ end_of ends s → Fits links p → Fits (set links (end_of ends s) v) p
  fits_still links s v p d h f =
      let agree : Agree p (end_of ends p) links (set links (end_of ends s) v) = λ x i j. sym (set_off links s v x (clear s p x d h i (omega arith))) in
      record {
        from = f.from;
        begins = f.begins;
        before_u = f.before_u;
        spells = spells_kept f.spells (set links (end_of ends s) v) (omega (arith, end_low ends p)) agree;
      }

  pub tie : (links : List ℕ) (sign s : ℕ) (rs : List ℕ) → length links ≡ most_words → All (Fits links) (s ∷ rs) → Apart (s ∷ rs) → Tied links (link_on links ends sign s rs u) sign s rs
  unfolding link_on joined
  tie links sign s [] l f a =
      record {
        long = length-set links (end_of ends s) (sign + u) ∙ l;
        frame = λ x g. set_off links s (sign + u) x (g s (at_head refl));
        next = u;
        goes = set_at links s (sign + u) l;
        spells = last_word (set links (end_of ends s) (sign + u));
      }
  tie links sign s (r ∷ rs) l f (apart d (apart d' a)) = step (tie links₁ most_words r rs (length-set links (end_of ends s) (sign + place r) ∙ l) (λ p m. fits_still links s (sign + place r) p (d p m) first.begins (f p (in_Tail m))) (apart d' a))
    where
      links₁ : List ℕ
      links₁ = set links (end_of ends s) (sign + place r)

      first : Fits links s
      first = f s (at_head refl)

      second : Fits links r
      second = f r (in_Tail (at_head refl))

      step : Tied links₁ (link_on links₁ ends most_words r rs u) most_words r rs → Tied links (link_on links₁ ends most_words r rs u) sign s (r ∷ rs)
      step t =
          record {
            long = t.long;
            frame = frame';
            next = r;
            goes = after-place links' (end_of ends s) (end_low ends s) ∙ (t.frame (end_of ends s) away ∙ (get_or-set_same links (end_of ends s) (sign + place r) 0 (omega (arith, end_low ends s)) ∙ ap (λ x. sign + x) (place_same r (omega (arith, second.begins, end_low ends r)))));
            spells = subst (λ w. Spells ws links' lo u r w) (sym (append_assoc (key r) (64 ∷ joined (map key rs)) (word_at ws u ∷ []))) (spells_append here u (64 ∷ behind rs) (omega (arith, second.from, second.begins)) second.before_u further);
          }
        where
          links' : List ℕ
          links' = link_on links₁ ends most_words r rs u

          frame' : (x : ℕ) → ((p : ℕ) → In p (s ∷ (r ∷ rs)) → x ≡ end_of ends p → ⊥) → get_or links' x 0 ≡ get_or links x 0
          frame' x g = t.frame x (λ p m. g p (in_Tail m)) ∙ set_off links s (sign + place r) x (g s (at_head refl))

          away : (p : ℕ) → In p (r ∷ rs) → end_of ends s ≡ end_of ends p → ⊥
          away p m e = clear p s (end_of ends s) (turned (d p m)) (f p (in_Tail m)).begins first.begins (omega arith) e

          within : (x : ℕ) → r ≤ x → x < end_of ends r → (p : ℕ) → In p (s ∷ (r ∷ rs)) → x ≡ end_of ends p → ⊥
          within x h i p (at_head q) e = clear s r x (d r (at_head refl)) first.begins h (omega arith) (rw q at e)
          within x h i p (in_Tail (at_head q)) e = apart_from (rw q at e)
            where
              apart_from : x ≡ end_of ends r → ⊥
              apart_from e = omega arith
          within x h i p (in_Tail (in_Tail m)) e = clear p r x (turned (d' p m)) (f p (in_Tail (in_Tail m))).begins h (omega arith) e

          here : Spells ws links' lo (end_of ends r) r (key r)
          here = spells_lower (spells_kept second.spells links' (omega (arith, end_low ends r)) (λ x h i. sym (frame' x (within x h i)))) lo second.from

          further : Spells ws links' lo u (after links' (end_of ends r)) (64 ∷ behind rs)
          further = subst (λ x. Spells ws links' lo u x (64 ∷ behind rs)) (sym t.goes) (spells_sign t.spells (sign_word t.next))

  -- the words of a sum and the word at place u
  abbrev pub summed : List ℕ → List ℕ
  summed l = join (map key l) ++ (word_at ws u ∷ [])

  -- linked summands, from the first of them on
  pub record Chained (links links' : List ℕ) (s : ℕ) (rs : List ℕ) : Type 0 where
    pub long : length links' ≡ most_words
    pub frame : (x : ℕ) → ((p : ℕ) → In p (s ∷ rs) → x ≡ end_of ends p → ⊥) → get_or links' x 0 ≡ get_or links x 0
    pub spells : Spells ws links' lo u s (summed (s ∷ rs))

  pub chained : (links : List ℕ) (s : ℕ) (rs : List ℕ) → length links ≡ most_words → All (Fits links) (s ∷ rs) → Apart (s ∷ rs) → Chained links (linked links ends (s ∷ rs) u) s rs
  unfolding linked join
  chained links s rs l f (apart d a) = made (tie links 0 s rs l f (apart d a))
    where
      links' : List ℕ
      links' = link_on links ends 0 s rs u

      first : Fits links s
      first = f s (at_head refl)

      made : Tied links links' 0 s rs → Chained links links' s rs
      made t = record { long = t.long; frame = t.frame; spells = subst (λ w. Spells ws links' lo u s w) (sym (append_assoc (key s) (joined (map key rs)) (word_at ws u ∷ []))) (spells_append here u (behind rs) (omega (arith, first.from, first.begins)) first.before_u (subst (λ x. Spells ws links' lo u x (behind rs)) (sym (t.goes ∙ none t.next)) t.spells)) }
        where
          within : (x : ℕ) → s ≤ x → x < end_of ends s → (p : ℕ) → In p (s ∷ rs) → x ≡ end_of ends p → ⊥
          within x h i p (at_head q) e = apart_from (rw q at e)
            where
              apart_from : x ≡ end_of ends s → ⊥
              apart_from e = omega arith
          within x h i p (in_Tail m) e = clear p s x (turned (d p m)) (f p (in_Tail m)).begins h (omega arith) e

          none : (n : ℕ) → 0 + n ≡ n
          none n = omega arith

          here : Spells ws links' lo (end_of ends s) s (key s)
          here = spells_lower (spells_kept first.spells links' (omega (arith, end_low ends s)) (λ x h i. sym (t.frame x (within x h i)))) lo first.from

  -- and put behind the summand a that stands before them: the link at its end is to the first of them
  pub extended : (links links' : List ℕ) (a s : ℕ) (rs : List ℕ) → Chained links links' s rs → a ≤ end_of ends a → end_of ends a < lo → lo ≤ u
      → ((p : ℕ) → In p (s ∷ rs) → lo ≤ end_of ends p) → Spells ws links a (end_of ends a) a (key a)
      → Spells ws (set links' (end_of ends a) s) a u a (key a ++ summed (s ∷ rs))
  extended links links' a s rs c h i j g k =
      spells_append here u (summed (s ∷ rs)) h (omega arith)
      (subst (λ x. Spells ws links'' a u x (summed (s ∷ rs))) (sym (set_at links' a s c.long)) (spells_lower (spells_kept c.spells links'' high (λ x l m. sym (set_off links' a s x (λ e. omega arith)))) a (omega arith)))
    where
      links'' : List ℕ
      links'' = set links' (end_of ends a) s

      away : (x : ℕ) → a ≤ x → x < end_of ends a → (p : ℕ) → In p (s ∷ rs) → x ≡ end_of ends p → ⊥
      away x l m p n e = omega (arith, g p n)

      here : Spells ws links'' a (end_of ends a) a (key a)
      here = spells_kept k links'' (omega (arith, end_low ends a)) (λ x l m. sym (set_off links' a s x (λ e. omega arith) ∙ c.frame x (away x l m)))
