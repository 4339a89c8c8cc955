-- One word taken, an action or +: the summands gathered are those of one word more.
use Prim.Native.Nat.{ℕ, suc, zero, ◌+◌, ◌-◌, ◌≤◌, ◌<◌}
use native.Mathlib.Omega.{arith}
use native.Mathlib.Numerals.{add-one}
use mathlib.Core.Path.{◌≡◌, refl, sym, ap, subst, ◌∙◌}
use mathlib.Core.Bool.{Bool, true, false}
use mathlib.Core.Logic.{◌⊎◌, inl, inr}
use mathlib.Core.List.{List, [], ◌∷◌, ◌++◌}
use lib.ListN.{length, get_or, set, take, drop, length-set}
use lib.Seq.{get_or-set_same, get_or-set_other, take-suc-set}
use lib.Dec.{ltb}
use borrow.Author.Tests.{ltb-true, ltb-false, ne_eqb}
use Rattle.areas.specs.Area.{most_words}
use Rattle.forms.specs.Sorting.{total}
use Rattle.forms.specs.Gathering.{take_word, gather}
use Rattle.forms.proofs.Members.{All, total-append}
use Rattle.chains.specs.Chain.{word_at, walk, last, size_of, end_of, chain}
use Rattle.chains.proofs.Paths.{get_d_any}
use Rattle.fixing.specs.Gathered.{span, parts, Climbs, Summand, Gathered}
use Rattle.fixing.proofs.Spans.{span-append, parts_same, climbs_low, climbs_same, Standing, standing, total_same}
use Rattle.fixing.proofs.Stays.{size-on, size_off, end_on, end_off, summand_stays, chain_stays, agree_refl, next_word}

module _ {ws : List ℕ} {i : ℕ} {links sizes ends entries starts : List ℕ} {c d : ℕ} (few : length ws ≤ most_words) (inside : i < length ws)
    (g : Gathered ws i links sizes ends entries starts c d) where
  -- an action
  action-parts : (w : ℕ) → (w ≡ 64 → ⊥) → (w ≡ 65 → ⊥) → (ps : List (List (List ℕ))) → take_word w ps ≡ ((w ∷ []) ∷ []) ∷ ps
  unfolding take_word
  action-parts w f f' ps = rw (ne_eqb w 64 f, ne_eqb w 65 f') refl

  low_entry : (j : ℕ) → j < c → get_or entries j 0 < i
  low_entry j h = omega (arith, (g.summand j h).begins, (g.summand j h).before_i)

  abbrev sizes₁ : List ℕ
  sizes₁ = set sizes i 1

  abbrev ends₁ : List ℕ
  ends₁ = set ends i i

  abbrev entries₁ : List ℕ
  entries₁ = set entries c i

  abbrev starts₁ : List ℕ
  starts₁ = set starts d c

  old_entry : (j : ℕ) → j < c → get_or entries₁ j 0 ≡ get_or entries j 0
  old_entry j h = get_or-set_other entries c j i 0 (λ e. omega arith)

  new_entry : get_or entries₁ c 0 ≡ i
  new_entry = get_or-set_same entries c i 0 (omega (arith, g.few, g.entries_long))

  old_size : (j : ℕ) → j < c → size_of sizes₁ (get_or entries j 0) ≡ size_of sizes (get_or entries j 0)
  old_size j h = size_off sizes i 1 (get_or entries j 0) (omega (arith, low_entry j h)) (λ e. omega (arith, low_entry j h))

  old_end : (j : ℕ) → j < c → end_of ends₁ (get_or entries j 0) ≡ end_of ends (get_or entries j 0)
  old_end j h = end_off ends i i (get_or entries j 0) (omega (arith, low_entry j h)) (λ e. omega (arith, low_entry j h))

  new_size : size_of sizes₁ i ≡ 1
  new_size = size-on sizes i 1 (omega arith) g.sizes_long

  new_end : end_of ends₁ i ≡ i
  new_end = end_on ends i i (omega arith) (omega arith) g.ends_long

  new_summand : Summand links sizes₁ ends₁ (suc i) i
  new_summand = record { begins = rw new_end (omega arith); before_i = rw new_end (omega arith); path = rw (new_end, new_size) last }

  summand₁ : (j : ℕ) → j < suc c → Summand links sizes₁ ends₁ (suc i) (get_or entries₁ j 0)
  summand₁ j h = pick (ltb j c) refl
    where
      pick : (b : Bool) → ltb j c ≡ b → Summand links sizes₁ ends₁ (suc i) (get_or entries₁ j 0)
      pick true e =
          let k = ltb-true j c e in
          subst (Summand links sizes₁ ends₁ (suc i)) (sym (old_entry j k)) (summand_stays (g.summand j k) links sizes₁ (old_size j k) (agree_refl links (get_or entries j 0) (end_of ends (get_or entries j 0))) ends₁ (suc i) (old_end j k) (omega arith))
      pick false e = here (omega (arith, ltb-false j c e))
        where
          here : j ≡ c → Summand links sizes₁ ends₁ (suc i) (get_or entries₁ j 0)
          here q = rw q (subst (Summand links sizes₁ ends₁ (suc i)) (sym new_entry) new_summand)

  rising₁ : (j k : ℕ) → j < k → k < suc c → end_of ends₁ (get_or entries₁ j 0) < get_or entries₁ k 0
  rising₁ j k h l = pick (ltb k c) refl
    where
      before : j < c
      before = omega arith

      left_end : end_of ends₁ (get_or entries₁ j 0) ≡ end_of ends (get_or entries j 0)
      left_end = ap (end_of ends₁) (old_entry j before) ∙ old_end j before

      pick : (b : Bool) → ltb k c ≡ b → end_of ends₁ (get_or entries₁ j 0) < get_or entries₁ k 0
      pick true e = let m = ltb-true k c e in rw (left_end, old_entry k m) (g.rising j k h m)
      pick false e = here (omega (arith, ltb-false k c e))
        where
          here : k ≡ c → end_of ends₁ (get_or entries₁ j 0) < get_or entries₁ k 0
          here q = rw (left_end, q, new_entry) (g.summand j before).before_i

  bounded₁ : total (λ p. suc (size_of sizes₁ p)) (take (suc c) entries₁) ≤ suc i + suc i
  unfolding total
  bounded₁ =
      let e = take-suc-set entries c i (omega (arith, g.few, g.entries_long)) in
      let t = total-append (λ p. suc (size_of sizes₁ p)) (take c entries) (i ∷ []) in
      let same = total_same (λ p. suc (size_of sizes₁ p)) (λ p. suc (size_of sizes p)) (take c entries) old_total in
      rw e (omega (arith, t, same, new_size, g.bounded))
    where
      old_total : All (λ p. suc (size_of sizes₁ p) ≡ suc (size_of sizes p)) (take c entries)
      old_total p m = found (standing entries 0 c p (omega (arith, g.few, g.entries_long)) m)
        where
          found : Standing entries 0 c p → suc (size_of sizes₁ p) ≡ suc (size_of sizes p)
          found s = rw s.is (ap suc (old_size s.at (omega (arith, s.before_end))))

  new_words : chain ws links sizes₁ i ≡ get_or ws i 0 ∷ []
  unfolding chain walk word_at
  new_words = rw new_size (ap (λ w. w ∷ []) (get_d_any ws i 64 0 inside))

  parts₁ : parts (chain ws links sizes₁) entries₁ starts₁ (suc d) (suc c) ≡ ((get_or ws i 0 ∷ []) ∷ []) ∷ parts (chain ws links sizes) entries starts d c
  unfolding parts span
  parts₁ =
      let e = get_or-set_same starts d c 0 (omega (arith, climbs_low starts d c g.climbs, g.few, g.starts_long)) in
      let o : suc c - c ≡ 1 = omega arith in
      rw (e, o, new_entry, new_words)
      (ap (λ l. ((get_or ws i 0 ∷ []) ∷ []) ∷ l)
      (parts_same (chain ws links sizes) (chain ws links sizes₁) entries entries₁ starts starts₁ d c g.climbs (λ k h. get_or-set_other starts d k c 0 (λ q. omega arith)) (λ j h k. ap (chain ws links sizes₁) (old_entry j k) ∙ chain_stays (g.summand j k) links sizes₁ (old_size j k) (agree_refl links (get_or entries j 0) (end_of ends (get_or entries j 0))) ws)))

  action_suc : (get_or ws i 0 ≡ 64 → ⊥) → (get_or ws i 0 ≡ 65 → ⊥) → Gathered ws (suc i) links sizes₁ ends₁ entries₁ starts₁ (suc c) (suc d)
  action_suc f f' =
      record {
        links_long = g.links_long;
        sizes_long = length-set sizes i 1 ∙ g.sizes_long;
        ends_long = length-set ends i i ∙ g.ends_long;
        entries_long = length-set entries c i ∙ g.entries_long;
        starts_long = length-set starts d c ∙ g.starts_long;
        few = omega (arith, g.few);
        climbs = up;
        summand = summand₁;
        rising = rising₁;
        bounded = bounded₁;
        left = rw parts₁ (ap (gather (drop (suc i) ws)) (sym (action-parts (get_or ws i 0) f f' (parts (chain ws links sizes) entries starts d c))) ∙ (sym (next_word ws i (parts (chain ws links sizes) entries starts d c) inside) ∙ g.left));
      }
    where
      up : Climbs starts₁ (suc d) (suc c)
      up =
          let e = get_or-set_same starts d c 0 (omega (arith, climbs_low starts d c g.climbs, g.few, g.starts_long)) in
          rw e (omega arith, climbs_same starts starts₁ d c (λ k h. get_or-set_other starts d k c 0 (λ q. omega arith)) g.climbs)

  pub action-taken : (get_or ws i 0 ≡ 64 → ⊥) → (get_or ws i 0 ≡ 65 → ⊥) → Gathered ws (i + 1) links (set sizes i 1) (set ends i i) (set entries c i) (set starts d c) (c + 1) (d + 1)
  action-taken f f' = rw (add-one i, add-one c, add-one d) (action_suc f f')

  -- fewer than two parts before + or ·, which a basic plan does not have
  too_few : (w : ℕ) → (w ≡ 64) ⊎ (w ≡ 65) → (ps : List (List (List ℕ))) → length ps ≤ 1 → take_word w ps ≡ ps
  unfolding take_word
  too_few w (inl e) [] k = rw e refl
  too_few w (inl e) (y ∷ []) k = rw e refl
  too_few w (inl e) (y ∷ (x ∷ ps)) k = absurd (omega arith)
  too_few w (inr e) [] k = rw e refl
  too_few w (inr e) (y ∷ []) k = rw e refl
  too_few w (inr e) (y ∷ (x ∷ ps)) k = absurd (omega arith)

  -- nothing but the place moves
  moved : (d' : ℕ) → Climbs starts d' c → parts (chain ws links sizes) entries starts d' c ≡ take_word (get_or ws i 0) (parts (chain ws links sizes) entries starts d c) → Gathered ws (i + 1) links sizes ends entries starts c d'
  moved d' u e =
      record {
        links_long = g.links_long;
        sizes_long = g.sizes_long;
        ends_long = g.ends_long;
        entries_long = g.entries_long;
        starts_long = g.starts_long;
        few = omega (arith, g.few);
        climbs = u;
        summand = λ j h. summand_stays (g.summand j h) links sizes refl (agree_refl links (get_or entries j 0) (end_of ends (get_or entries j 0))) ends (i + 1) refl (omega arith);
        rising = g.rising;
        bounded = omega (arith, g.bounded);
        left = rw (add-one i, e) (sym (next_word ws i (parts (chain ws links sizes) entries starts d c) inside) ∙ g.left);
      }

  parts-length : (d c : ℕ) → length (parts (chain ws links sizes) entries starts d c) ≡ d
  unfolding parts
  parts-length zero c = refl
  parts-length (suc d) c = ap suc (parts-length d (get_or starts d 0))

  pub operator_passed : d < 2 → (get_or ws i 0 ≡ 64) ⊎ (get_or ws i 0 ≡ 65) → Gathered ws (i + 1) links sizes ends entries starts c d
  operator_passed h e = moved d g.climbs (sym (too_few (get_or ws i 0) e (parts (chain ws links sizes) entries starts d c) (omega (arith, parts-length d c))))

-- a sum
module _ {ws : List ℕ} {i : ℕ} {links sizes ends entries starts : List ℕ} {c d : ℕ} (few : length ws ≤ most_words) (inside : i < length ws)
    (g : Gathered ws i links sizes ends entries starts c (suc (suc d))) (plus : get_or ws i 0 ≡ 64) where
  side_by_side : parts (chain ws links sizes) entries starts (suc d) c ≡ take_word (get_or ws i 0) (parts (chain ws links sizes) entries starts (suc (suc d)) c)
  unfolding parts take_word
  side_by_side =
      rw plus
      (ap (λ l. l ∷ parts key entries starts d s₀)
      (ap (span key entries s₀) all ∙ (sym (span-append key entries s₀ (s₁ - s₀) (c - s₁)) ∙ ap (λ x. span key entries s₀ (s₁ - s₀) ++ span key entries x (c - s₁)) between)))
    where
      s₀ : ℕ
      s₀ = get_or starts d 0

      s₁ : ℕ
      s₁ = get_or starts (suc d) 0

      key : ℕ → List ℕ
      key = chain ws links sizes

      between : s₀ + (s₁ - s₀) ≡ s₁
      between = omega (arith, g.climbs.1.0)

      all : c - s₀ ≡ (s₁ - s₀) + (c - s₁)
      all = omega (arith, g.climbs.0, g.climbs.1.0)

  sum-taken : Gathered ws (i + 1) links sizes ends entries starts c (suc d)
  sum-taken = moved few inside g (suc d) (omega (arith, g.climbs.0, g.climbs.1.0), g.climbs.1.1) side_by_side

-- the same of n parts, as the code counts them
pub sum_done : {ws : List ℕ} {i : ℕ} {links sizes ends entries starts : List ℕ} {c n : ℕ} → length ws ≤ most_words → i < length ws → Gathered ws i links sizes ends entries starts c n → 2 ≤ n
    → get_or ws i 0 ≡ 64 → Gathered ws (i + 1) links sizes ends entries starts c (n - 1)
sum_done {ws} {i} {links} {sizes} {ends} {entries} {starts} {c} {n} few inside g two plus =
    let e : n ≡ suc (suc (n - 2)) = omega arith in
    let d : n - 1 ≡ suc (n - 2) = omega arith in
    rw d (sum-taken few inside (subst (Gathered ws i links sizes ends entries starts c) e g) plus)

-- no more parts than words read
pub parts_low : {ws : List ℕ} {i : ℕ} {links sizes ends entries starts : List ℕ} {c d : ℕ} → Gathered ws i links sizes ends entries starts c d → d ≤ i
parts_low {starts = starts} {c = c} {d = d} g = omega (arith, climbs_low starts d c g.climbs, g.few)

-- before the first word nothing is gathered
pub nothing_gathered : (ws links sizes ends entries starts : List ℕ) → length links ≡ most_words → length sizes ≡ most_words → length ends ≡ most_words → length entries ≡ most_words → length starts ≡ most_words
    → Gathered ws 0 links sizes ends entries starts 0 0
unfolding total parts
nothing_gathered ws links sizes ends entries starts a b c d e =
    record {
      links_long = a;
      sizes_long = b;
      ends_long = c;
      entries_long = d;
      starts_long = e;
      few = omega arith;
      climbs = tt;
      summand = λ j h. absurd (omega arith);
      rising = λ j k h l. absurd (omega arith);
      bounded = omega arith;
      left = refl;
    }
