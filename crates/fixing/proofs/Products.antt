-- One word taken, ·: the last part, closed, stands behind its action.
use Prim.Native.Nat.{ℕ, suc, ◌+◌, ◌-◌, ◌%◌, ◌≤◌, ◌<◌}
use native.Mathlib.Omega.{arith}
use native.Mathlib.Numerals.{add-one}
use mathlib.Core.Path.{◌≡◌, refl, sym, ap, ap₂, subst, ◌∙◌}
use mathlib.Core.Bool.{Bool, true, false}
use mathlib.Core.List.{List, [], ◌∷◌, ◌++◌}
use lib.ListN.{length, get_or, set, take, drop, length-append, length-set}
use lib.Seq.{get_or-set_other, take-suc, take-add, get_or-take}
use lib.Dec.{ltb}
use borrow.Author.Tests.{ltb-true, ltb-false}
use Rattle.areas.specs.Area.{most_words}
use Rattle.forms.specs.Sorting.{sort, total}
use Rattle.forms.specs.Gathering.{join, sorted, extend, take_word}
use Rattle.forms.proofs.Members.{All, total-append, sort-total, once-total}
use Rattle.chains.specs.Chain.{word_at, place, size_of, end_of, chain, by_chain}
use Rattle.chains.proofs.Paths.{get_d_any, Agree, Spells, walk-length, spells_walk}
use Rattle.chains.proofs.Tied.{end_low, Chained, summed, extended}
use Rattle.fixing.specs.Gathered.{span, parts, Summand, Gathered, Closed}
use Rattle.fixing.proofs.Spans.{span-append, span-one, span_same, span-extend, parts_same, climbs_low, Standing, standing, total_same}
use Rattle.fixing.proofs.Closing.{Shut, shut}
use Rattle.fixing.proofs.Stays.{size-on, size_off, end_on, end_off, summand_stays, chain_stays, next_word}

-- a product: the last part, closed, is put behind the action that is the last entry before it
module _ {ws : List ℕ} {i : ℕ} {links sizes ends entries starts : List ℕ} {c d : ℕ} (few : length ws ≤ most_words) (inside : i < length ws)
    (g : Gathered ws i links sizes ends entries starts c (suc (suc d))) (dot : get_or ws i 0 ≡ 65)
    (links' part' entries' : List ℕ) (size : ℕ) (closed : Closed ws links sizes ends (take (c - get_or starts (suc d) 0) (drop (get_or starts (suc d) 0) entries)) i links' part' size)
    (entries_long' : length entries' ≡ most_words) (below : take (get_or starts (suc d) 0) entries' ≡ take (get_or starts (suc d) 0) entries)
    (first-put : get_or entries' (get_or starts (suc d) 0) 0 ≡ get_or part' 0 0) where
  abbrev s₀ : ℕ
  s₀ = get_or starts d 0

  abbrev s₁ : ℕ
  s₁ = get_or starts (suc d) 0

  abbrev key : ℕ → List ℕ
  key = chain ws links sizes

  abbrev a : ℕ
  a = get_or entries (s₁ - 1) 0

  abbrev first : ℕ
  first = get_or entries' s₁ 0

  abbrev links'' : List ℕ
  links'' = set links' (end_of ends a) first

  abbrev sizes'' : List ℕ
  sizes'' = set sizes a (get_or sizes a 0 + size)

  abbrev ends'' : List ℕ
  ends'' = set ends a i

  high : i ≤ most_words
  high = omega arith

  sh : Shut few high g
  sh = shut few high g

  action : Summand links sizes ends i a
  action = g.summand (s₁ - 1) (omega (arith, g.climbs.0, g.climbs.1.0))

  action_low : a < most_words
  action_low = omega (arith, action.begins, end_low ends a)

  low_after : end_of ends a < get_or entries s₁ 0
  low_after = g.rising (s₁ - 1) s₁ (omega (arith, g.climbs.1.0)) g.climbs.0

  low_inside : get_or entries s₁ 0 ≤ i
  low_inside = let m = g.summand s₁ g.climbs.0 in omega (arith, m.begins, m.before_i)

  is_first : first ≡ sh.some.first
  is_first = first-put ∙ (closed.first ∙ ap (λ l. get_or l 0 0) sh.some.is)

  size-plain : get_or sizes a 0 ≡ size_of sizes a
  unfolding size_of place
  size-plain = let m : a % most_words ≡ a = omega (arith, action_low) in rw m refl

  chained_links : Chained ws ends key (get_or entries s₁ 0) i few high links links' sh.some.first sh.some.others
  chained_links = subst (λ l. Chained ws ends key (get_or entries s₁ 0) i few high links l sh.some.first sh.some.others) (sym closed.tied) sh.tied

  product-word : word_at ws i ≡ 65
  unfolding word_at
  product-word = get_d_any ws i 64 0 inside ∙ dot

  abbrev v : List ℕ
  v = join (sorted (span key entries s₁ (c - s₁))) ++ (65 ∷ [])

  spelled : summed ws ends key (get_or entries s₁ 0) i few high (sh.some.first ∷ sh.some.others) ≡ v
  spelled = sh.spelled ∙ ap (λ w. join (sorted (span key entries s₁ (c - s₁))) ++ (w ∷ [])) product-word

  action_spells : Spells ws links'' a i a (key a ++ v)
  action_spells =
      subst (λ w. Spells ws links'' a i a (key a ++ w)) spelled
      (subst (λ f. Spells ws (set links' (end_of ends a) f) a i a (key a ++ summed ws ends key (get_or entries s₁ 0) i few high (sh.some.first ∷ sh.some.others))) (sym is_first)
      (extended ws ends key (get_or entries s₁ 0) i few high links links' a sh.some.first sh.some.others chained_links action.begins low_after low_inside sh.ends_high
      (unfold chain in spells_walk ws links a (end_of ends a) (size_of sizes a) a action.path)))

  v_long : length v ≡ size
  v_long = ap length (sym spelled) ∙ (sh.long ∙ sym closed.added)

  key_long : length (key a) ≡ size_of sizes a
  unfolding chain
  key_long = walk-length ws links (size_of sizes a) a

  new_long : length (key a ++ v) ≡ get_or sizes a 0 + size
  new_long = omega (arith, length-append (key a) v, v_long, key_long, size-plain)

  new_size'' : size_of sizes'' a ≡ length (key a ++ v)
  new_size'' = size-on sizes a (get_or sizes a 0 + size) action_low g.sizes_long ∙ sym new_long

  new_end'' : end_of ends'' a ≡ i
  new_end'' = end_on ends a i action_low (omega arith) g.ends_long

  action-summand : Summand links'' sizes'' ends'' (i + 1) a
  action-summand = record { begins = rw new_end'' (omega (arith, action.begins, action.before_i)); before_i = rw new_end'' (omega arith); path = rw (new_end'', new_size'') action_spells.path }

  action-words : chain ws links'' sizes'' a ≡ key a ++ v
  unfolding chain
  action-words = rw new_size'' action_spells.words

  -- the summands before it stay
  module _ (j : ℕ) (before : j < s₁ - 1) where
    abbrev p : ℕ
    p = get_or entries j 0

    in_stack : j < c
    in_stack = omega (arith, g.climbs.0)

    lower : end_of ends p < a
    lower = g.rising j (s₁ - 1) before (omega (arith, g.climbs.0, g.climbs.1.0))

    stands_low : p ≤ end_of ends p
    stands_low = (g.summand j in_stack).begins

    another : p ≡ a → ⊥
    another e = omega (arith, lower, stands_low)

    stays_size : size_of sizes'' p ≡ size_of sizes p
    stays_size = size_off sizes a (get_or sizes a 0 + size) p (omega (arith, lower, stands_low, action_low)) another

    stays_end : end_of ends'' p ≡ end_of ends p
    stays_end = end_off ends a i p (omega (arith, lower, stands_low, action_low)) another

    stays_links : Agree p (end_of ends p) links links''
    stays_links x h k = sym (get_or-set_other links' (end_of ends a) x first 0 (λ e. omega (arith, lower, action.begins)) ∙ chained_links.frame x (λ q m e. omega (arith, lower, action.begins, low_after, sh.ends_high q m)))

    stays_summand : Summand links'' sizes'' ends'' (i + 1) p
    stays_summand = summand_stays (g.summand j in_stack) links'' sizes'' stays_size stays_links ends'' (i + 1) stays_end (omega arith)

    stays_words : chain ws links'' sizes'' p ≡ key p
    stays_words = chain_stays (g.summand j in_stack) links'' sizes'' stays_size stays_links ws

  entry_same : (j : ℕ) → j < s₁ → get_or entries' j 0 ≡ get_or entries j 0
  entry_same j h = sym (get_or-take s₁ entries' j 0 h) ∙ (ap (λ l. get_or l j 0) below ∙ get_or-take s₁ entries j 0 h)

  summand'' : (j : ℕ) → j < s₁ → Summand links'' sizes'' ends'' (i + 1) (get_or entries' j 0)
  summand'' j h = pick (ltb j (s₁ - 1)) refl
    where
      pick : (b : Bool) → ltb j (s₁ - 1) ≡ b → Summand links'' sizes'' ends'' (i + 1) (get_or entries' j 0)
      pick true e = subst (Summand links'' sizes'' ends'' (i + 1)) (sym (entry_same j h)) (stays_summand j (ltb-true j (s₁ - 1) e))
      pick false e = here (omega (arith, ltb-false j (s₁ - 1) e))
        where
          here : j ≡ s₁ - 1 → Summand links'' sizes'' ends'' (i + 1) (get_or entries' j 0)
          here q = subst (Summand links'' sizes'' ends'' (i + 1)) (sym (entry_same j h ∙ ap (λ x. get_or entries x 0) q)) action-summand

  rising'' : (j k : ℕ) → j < k → k < s₁ → end_of ends'' (get_or entries' j 0) < get_or entries' k 0
  rising'' j k h l =
      let b : j < s₁ - 1 = omega arith in
      rw (entry_same j (omega arith), entry_same k l, stays_end j b) (g.rising j k h (omega (arith, g.climbs.0)))

  total_split : (f : ℕ → ℕ) → total f (take s₁ entries) ≡ total f (take (s₁ - 1) entries) + f a
  unfolding total
  total_split f =
      let m : s₁ ≡ suc (s₁ - 1) = omega (arith, g.climbs.1.0) in
      let t = take-suc entries (s₁ - 1) 0 (omega (arith, g.climbs.0, g.few, g.entries_long)) in
      let w = total-append f (take (s₁ - 1) entries) (a ∷ []) in
      ap (λ x. total f (take x entries)) m ∙ (ap (total f) t ∙ omega (arith, w))

  -- the action and the part closed have no more words than they had on the stack
  fits_in : total (λ p. suc (size_of sizes p)) (take (s₁ - 1) entries) + (suc (get_or sizes a 0) + size) ≤ i + i
  fits_in =
      let f : ℕ → ℕ = λ p. suc (size_of sizes p) in
      let part = take (c - s₁) (drop s₁ entries) in
      let whole : s₁ + (c - s₁) ≡ c = omega (arith, g.climbs.0) in
      let two = ap (λ x. total f (take x entries)) (sym whole) ∙ (ap (total f) (take-add s₁ (c - s₁) entries) ∙ total-append f (take s₁ entries) part) in
      let once-less = once-total (by_chain ws links sizes) f (sort (by_chain ws links sizes) part) in
      let sort_same = sort-total (by_chain ws links sizes) f part in
      omega (arith, two, once-less, sort_same, total_split f, closed.added, g.bounded, size-plain)

  product-fits : get_or sizes a 0 + size < i + i
  product-fits = omega (arith, fits_in)

  bounded'' : total (λ p. suc (size_of sizes'' p)) (take s₁ entries') ≤ i + 1 + (i + 1)
  bounded'' =
      let f : ℕ → ℕ = λ p. suc (size_of sizes p) in
      let f'' : ℕ → ℕ = λ p. suc (size_of sizes'' p) in
      let same = total_same f'' f (take (s₁ - 1) entries) stays_total in
      let e = ap (total f'') below ∙ total_split f'' in
      omega (arith, e, same, fits_in, new_size'', new_long)
    where
      stays_total : All (λ p. suc (size_of sizes'' p) ≡ suc (size_of sizes p)) (take (s₁ - 1) entries)
      stays_total p m = found (standing entries 0 (s₁ - 1) p (omega (arith, g.climbs.0, g.few, g.entries_long)) m)
        where
          found : Standing entries 0 (s₁ - 1) p → suc (size_of sizes'' p) ≡ suc (size_of sizes p)
          found t = rw t.is (ap suc (stays_size t.at (omega (arith, t.before_end))))

  words_same : (j : ℕ) → j < s₁ - 1 → chain ws links'' sizes'' (get_or entries' j 0) ≡ key (get_or entries j 0)
  words_same j h = ap (chain ws links'' sizes'') (entry_same j (omega arith)) ∙ stays_words j h

  below_extended : span (chain ws links'' sizes'') entries' s₀ (s₁ - s₀) ≡ extend (span key entries s₀ (s₁ - s₀)) v
  below_extended =
      let n = s₁ - s₀ - 1 in
      let more : s₁ - s₀ ≡ n + 1 = omega (arith, g.climbs.1.0) in
      let one : s₁ - s₀ ≡ suc n = omega (arith, g.climbs.1.0) in
      let end : s₀ + n ≡ s₁ - 1 = omega (arith, g.climbs.1.0) in
      let lower = span_same key (chain ws links'' sizes'') entries entries' s₀ n (λ j h k. words_same j (omega arith)) in
      let top = ap (chain ws links'' sizes'') (entry_same (s₁ - 1) (omega (arith, g.climbs.1.0))) ∙ action-words in
      let behind = span-one (chain ws links'' sizes'') entries' (s₀ + n) ∙ (ap (λ x. chain ws links'' sizes'' (get_or entries' x 0) ∷ []) end ∙ (ap (λ w. w ∷ []) top ∙ ap (λ x. (key (get_or entries x 0) ++ v) ∷ []) (sym end))) in
      ap (span (chain ws links'' sizes'') entries' s₀) more
      ∙ (sym (span-append (chain ws links'' sizes'') entries' s₀ n 1)
      ∙ (ap₂ ◌++◌ lower behind ∙ (sym (span-extend key entries s₀ n v) ∙ ap (λ k. extend (span key entries s₀ k) v) (sym one))))

  parts'' : parts (chain ws links'' sizes'') entries' starts (suc d) s₁ ≡ take_word (get_or ws i 0) (parts key entries starts (suc (suc d)) c)
  unfolding parts take_word
  parts'' =
      rw dot
      (ap₂ (λ x l. x ∷ l) below_extended
      (parts_same key (chain ws links'' sizes'') entries entries' starts starts d s₀ g.climbs.1.1 (λ k h. refl) (λ j h k. words_same j (omega (arith, g.climbs.1.0)))))

  product-taken : Gathered ws (i + 1) links'' sizes'' ends'' entries' starts s₁ (suc d)
  product-taken =
      record {
        links_long = length-set links' (end_of ends a) first ∙ chained_links.long;
        sizes_long = length-set sizes a (get_or sizes a 0 + size) ∙ g.sizes_long;
        ends_long = length-set ends a i ∙ g.ends_long;
        entries_long = entries_long';
        starts_long = g.starts_long;
        few = omega (arith, g.few, g.climbs.0);
        climbs = g.climbs.1;
        summand = summand'';
        rising = rising'';
        bounded = bounded'';
        left = rw (add-one i, parts'') (sym (next_word ws i (parts key entries starts (suc (suc d)) c) inside) ∙ g.left);
      }

-- the same of n parts, two or more, as the code counts them
module _ {ws : List ℕ} {i : ℕ} {links sizes ends entries starts : List ℕ} {c n : ℕ} (g : Gathered ws i links sizes ends entries starts c n) (two : 2 ≤ n) where
  by_two : n ≡ suc (suc (n - 2))
  by_two = omega arith

  last-part : n - 1 ≡ suc (n - 2)
  last-part = omega arith

  on-two : Gathered ws i links sizes ends entries starts c (suc (suc (n - 2)))
  on-two = subst (Gathered ws i links sizes ends entries starts c) by_two g

  pub start-below : get_or starts (n - 1) 0 < c
  start-below = rw last-part on-two.climbs.0

  pub start-above : 1 ≤ get_or starts (n - 1) 0
  start-above = rw last-part (omega (arith, on-two.climbs.1.0))

  pub parts-few : n ≤ i
  parts-few = omega (arith, climbs_low starts n c g.climbs, g.few)

  pub action_is_low : get_or entries (get_or starts (n - 1) 0 - 1) 0 < most_words
  action_is_low = let s = g.summand (get_or starts (n - 1) 0 - 1) (omega (arith, start-below)) in omega (arith, s.begins, end_low ends (get_or entries (get_or starts (n - 1) 0 - 1) 0))

  module _ (few : length ws ≤ most_words) (inside : i < length ws) (dot : get_or ws i 0 ≡ 65) (links' part' : List ℕ) (size : ℕ)
      (closed : Closed ws links sizes ends (take (c - get_or starts (n - 1) 0) (drop (get_or starts (n - 1) 0) entries)) i links' part' size) where
    closed-two : Closed ws links sizes ends (take (c - get_or starts (suc (n - 2)) 0) (drop (get_or starts (suc (n - 2)) 0) entries)) i links' part' size
    closed-two = subst (λ k. Closed ws links sizes ends (take (c - get_or starts k 0) (drop (get_or starts k 0) entries)) i links' part' size) last-part closed

    pub product-room : (entries' : List ℕ) → length entries' ≡ most_words → take (get_or starts (n - 1) 0) entries' ≡ take (get_or starts (n - 1) 0) entries → get_or entries' (get_or starts (n - 1) 0) 0 ≡ get_or part' 0 0
        → get_or sizes (get_or entries (get_or starts (n - 1) 0 - 1) 0) 0 + size < i + i
    product-room entries' l b f =
        rw last-part
        (product-fits few inside on-two dot links' part' entries' size closed-two l (subst (λ k. take (get_or starts k 0) entries' ≡ take (get_or starts k 0) entries) last-part b) (subst (λ k. get_or entries' (get_or starts k 0) 0 ≡ get_or part' 0 0) last-part f))

    pub product-done : (entries' : List ℕ) → length entries' ≡ most_words → take (get_or starts (n - 1) 0) entries' ≡ take (get_or starts (n - 1) 0) entries → get_or entries' (get_or starts (n - 1) 0) 0 ≡ get_or part' 0 0
        → (a e : ℕ) → a ≡ get_or entries (get_or starts (n - 1) 0 - 1) 0 → e ≡ end_of ends a
        → Gathered ws (i + 1) (set links' e (get_or entries' (get_or starts (n - 1) 0) 0)) (set sizes a (get_or sizes a 0 + size)) (set ends a i) entries' starts (get_or starts (n - 1) 0) (n - 1)
    product-done entries' l b f a e p q =
        rw (q, p, last-part)
        (product-taken few inside on-two dot links' part' entries' size closed-two l (subst (λ k. take (get_or starts k 0) entries' ≡ take (get_or starts k 0) entries) last-part b) (subst (λ k. get_or entries' (get_or starts k 0) 0 ≡ get_or part' 0 0) last-part f))
