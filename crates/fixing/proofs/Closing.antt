-- The last part of the stack closed: its summands, sorted and linked, spell its form.
use Prim.Native.Nat.{ℕ, suc, ◌+◌, ◌-◌, ◌≤◌, ◌<◌}
use native.Mathlib.Omega.{arith}
use mathlib.Core.Path.{◌≡◌, refl, sym, ap, subst, ◌∙◌}
use mathlib.Core.Bool.{Bool, true, false}
use mathlib.Core.Logic.{◌⊎◌, inl, inr}
use mathlib.Core.List.Memᴰ.{head as at_head}
use mathlib.Core.List.Memᴰ.{tail as in_Tail}
use mathlib.Core.List.{List, [], ◌∷◌, ◌++◌, map, Memᴰ as In}
use lib.ListN.{length, get_or, take, drop, length-append, length-take, length-drop}
use lib.Dec.{ltb}
use borrow.Author.Tests.{ltb-true, ltb-false}
use Rattle.areas.specs.Area.{most_words}
use Rattle.forms.specs.Form.{before?}
use Rattle.forms.specs.Sorting.{sort, once, once_after, total}
use Rattle.forms.specs.Gathering.{join, joined, sorted}
use Rattle.forms.proofs.Order.{not_before-itself}
use Rattle.forms.proofs.Sorted.{Sorted, then-after}
use Rattle.forms.proofs.Sorting.{part-sorted}
use Rattle.forms.proofs.Members.{All, if-has, sort-each, once-each, sort-total, total-one}
use Rattle.forms.proofs.Keys.{sort_key, once_key}
use Rattle.chains.specs.Chain.{word_at, size_of, end_of, chain, by_chain, linked}
use Rattle.chains.proofs.Paths.{spells_walk, walk-length}
use Rattle.chains.proofs.Tied.{Fits, Disjoint, Apart, nobody, apart, Chained, chained, summed}
use Rattle.fixing.specs.Gathered.{span, Summand, Gathered, kept}
use Rattle.fixing.proofs.Spans.{span-list, Standing, standing, total_same}

-- a list that is not empty
pub record Some (l : List ℕ) : Type 0 where
  pub first : ℕ
  pub others : List ℕ
  pub is : l ≡ first ∷ others

some_of : (l : List ℕ) → 1 ≤ length l → Some l
some_of [] h = absurd (omega arith)
some_of (s ∷ rs) h = record { first = s; others = rs; is = refl }

module _ (ws links sizes : List ℕ) where
  after_some : (s : ℕ) (l : List ℕ) → 1 ≤ length (once_after (by_chain ws links sizes) s l)
  unfolding once_after
  after_some s [] = omega arith
  after_some s (r ∷ rs) = if-has (λ l. 1 ≤ length l) (by_chain ws links sizes s r) _ _ (omega arith) (after_some s rs)

  once_some : (l : List ℕ) → 1 ≤ length l → 1 ≤ length (once (by_chain ws links sizes) l)
  unfolding once
  once_some [] h = absurd (omega arith)
  once_some (s ∷ l) h = after_some s l

  kept_some : (part : List ℕ) → 1 ≤ length part → Some (kept ws links sizes part)
  kept_some part h = some_of _ (once_some (sort (by_chain ws links sizes) part) (omega (arith, sort-total (by_chain ws links sizes) (λ p. 1) part, total-one part, total-one (sort (by_chain ws links sizes) part))))

  -- the words of the kept summands are the part's, sorted
  kept-words : (part : List ℕ) → map (chain ws links sizes) (kept ws links sizes part) ≡ sorted (map (chain ws links sizes) part)
  unfolding by_chain sorted
  kept-words part = once_key (chain ws links sizes) (sort (by_chain ws links sizes) part) ∙ ap (once before?) (sort_key (chain ws links sizes) part)

  kept-each : (P : ℕ → Type 0) (part : List ℕ) → All P part → All P (kept ws links sizes part)
  kept-each P part f = once-each (by_chain ws links sizes) P (sort (by_chain ws links sizes) part) (sort-each (by_chain ws links sizes) P part f)

-- summands in order, of which one stands behind the other where one comes before the other, are apart
module _ (ws ends : List ℕ) (key : ℕ → List ℕ) (lo u : ℕ) (few : length ws ≤ most_words) (high : u ≤ most_words) where
  in_map : {q : ℕ} {l : List ℕ} → In q l → In (key q) (map key l)
  in_map (at_head e) = at_head (ap key e)
  in_map (in_Tail m) = in_Tail (in_map m)

  sorted_apart : (l : List ℕ) → Sorted (map key l) → ((p q : ℕ) → In p l → In q l → before? (key p) (key q) ≡ true → Disjoint ws ends key lo u few high p q) → Apart ws ends key lo u few high l
  sorted_apart [] o f = nobody
  sorted_apart (p ∷ l) (then-after a o) f = apart (λ q m. f p q (at_head refl) (in_Tail m) (a (key q) (in_map m))) (sorted_apart l o (λ q r m n. f q r (in_Tail m) (in_Tail n)))

-- a sum has the words of its summands and the signs between them
joined_length : (key : ℕ → List ℕ) (l : List ℕ) → length (joined (map key l)) ≡ total (λ p. suc (length (key p))) l
unfolding joined total
joined_length key [] = refl
joined_length key (s ∷ l) = let e = joined_length key l in let d = length-append (key s) (64 ∷ joined (map key l)) in omega arith

join-length : (key : ℕ → List ℕ) (s : ℕ) (l : List ℕ) → suc (length (join (map key (s ∷ l)))) ≡ total (λ p. suc (length (key p))) (s ∷ l)
unfolding join total
join-length key s l = let e = joined_length key l in let d = length-append (key s) (joined (map key l)) in omega arith

module _ {ws : List ℕ} {i : ℕ} {links sizes ends entries starts : List ℕ} {c d : ℕ} (few : length ws ≤ most_words) (high : i ≤ most_words)
    (g : Gathered ws i links sizes ends entries starts c (suc d)) where
  abbrev pub start : ℕ
  start = get_or starts d 0

  -- the entries of the last part
  abbrev pub part : List ℕ
  part = take (c - start) (drop start entries)

  abbrev pub key : ℕ → List ℕ
  key = chain ws links sizes

  -- the place where the part begins
  abbrev pub low : ℕ
  low = get_or entries start 0

  abbrev words_of_part : List (List ℕ)
  words_of_part = span key entries start (c - start)

  part_in : start + (c - start) ≤ length entries
  part_in = omega (arith, g.climbs.0, g.few, g.entries_long)

  stands : (p : ℕ) → In p part → Standing entries start (c - start) p
  stands p m = standing entries start (c - start) p part_in m

  summand_of : (p : ℕ) → In p part → Summand links sizes ends i p
  summand_of p m =
      let s = stands p m in
      subst (Summand links sizes ends i) (sym s.is) (g.summand s.at (omega (arith, s.before_end, g.climbs.0)))

  from_low : (p : ℕ) → In p part → low ≤ p
  from_low p m = let s = stands p m in subst (λ q. low ≤ q) (sym s.is) (up s.at s.from (omega (arith, s.before_end, g.climbs.0)))
    where
      up : (j : ℕ) → start ≤ j → j < c → low ≤ get_or entries j 0
      up j h k = pick (ltb start j) refl
        where
          pick : (b : Bool) → ltb start j ≡ b → low ≤ get_or entries j 0
          pick true e = omega (arith, g.rising start j (ltb-true start j e) k, (g.summand start (omega arith)).begins)
          pick false e = at_start (omega (arith, ltb-false start j e))
            where
              at_start : j ≡ start → low ≤ get_or entries j 0
              at_start q = rw q (omega arith)

  fits : (p : ℕ) → In p part → Fits ws ends key low i few high links p
  fits p m =
      let s = summand_of p m in
      record { from = from_low p m; begins = s.begins; before_u = s.before_i; spells = unfold chain in spells_walk ws links p (end_of ends p) (size_of sizes p) p s.path }

  disjoint : (p q : ℕ) → In p part → In q part → before? (key p) (key q) ≡ true → Disjoint ws ends key low i few high p q
  disjoint p q m n e = pick (ltb sp.at sq.at) (ltb sq.at sp.at) refl refl
    where
      sp : Standing entries start (c - start) p
      sp = stands p m

      sq : Standing entries start (c - start) q
      sq = stands q n

      pick : (a b : Bool) → ltb sp.at sq.at ≡ a → ltb sq.at sp.at ≡ b → (end_of ends p < q) ⊎ (end_of ends q < p)
      pick true b h k = inl (rw (sp.is, sq.is) (g.rising sp.at sq.at (ltb-true sp.at sq.at h) (omega (arith, sq.before_end, g.climbs.0))))
      pick false true h k = inr (rw (sp.is, sq.is) (g.rising sq.at sp.at (ltb-true sq.at sp.at k) (omega (arith, sp.before_end, g.climbs.0))))
      pick false false h k = absurd (not_before-itself (key q) (subst (λ x. before? (key x) (key q) ≡ true) equal e))
        where
          same : sp.at ≡ sq.at
          same = omega (arith, ltb-false sp.at sq.at h, ltb-false sq.at sp.at k)

          equal : p ≡ q
          equal = sp.is ∙ (ap (λ x. get_or entries x 0) same ∙ sym sq.is)

  key_length : (p : ℕ) → length (key p) ≡ size_of sizes p
  unfolding chain
  key_length p = walk-length ws links (size_of sizes p) p

  pub record Shut : Type 0 where
    pub some : Some (kept ws links sizes part)
    pub tied : Chained ws ends key low i few high links (linked links ends (kept ws links sizes part) i) some.first some.others
    pub ends_high : (p : ℕ) → In p (some.first ∷ some.others) → low ≤ end_of ends p
    pub spelled : summed ws ends key low i few high (some.first ∷ some.others) ≡ join (sorted words_of_part) ++ (word_at ws i ∷ [])
    pub long : length (summed ws ends key low i few high (some.first ∷ some.others)) ≡ total (λ p. suc (size_of sizes p)) (kept ws links sizes part)

  pub shut : Shut
  shut = made (kept_some ws links sizes part (omega (arith, length-take (c - start) (drop start entries), length-drop start entries, g.climbs.0, part_in)))
    where
      made : Some (kept ws links sizes part) → Shut
      made s =
          record {
            some = s;
            tied = subst (λ l. Chained ws ends key low i few high links (linked links ends l i) s.first s.others) (sym s.is) (chained ws ends key low i few high links s.first s.others g.links_long (member fits) in_order);
            ends_high = member (λ p m. omega (arith, from_low p m, (summand_of p m).begins));
            spelled = ap (λ x. join x ++ (word_at ws i ∷ [])) words-sorted;
            long = measured;
          }
        where
          l : List ℕ
          l = s.first ∷ s.others

          member : {P : ℕ → Type 0} → ((p : ℕ) → In p part → P p) → (p : ℕ) → In p l → P p
          member {P} f = subst (All P) s.is (kept-each ws links sizes P part f)

          words-sorted : map key l ≡ sorted words_of_part
          words-sorted = ap (map key) (sym s.is) ∙ (kept-words ws links sizes part ∙ ap sorted (sym (span-list key entries start (c - start) part_in)))

          in_order : Apart ws ends key low i few high l
          in_order =
              sorted_apart ws ends key low i few high l (subst Sorted (sym words-sorted) (part-sorted words_of_part))
              (λ p q m n. disjoint p q (member (λ r o. o) p m) (member (λ r o. o) q n))

          measured : length (join (map key l) ++ (word_at ws i ∷ [])) ≡ total (λ p. suc (size_of sizes p)) (kept ws links sizes part)
          measured =
              let a = length-append (join (map key l)) (word_at ws i ∷ []) in
              let b = join-length key s.first s.others in
              let e = total_same (λ p. suc (length (key p))) (λ p. suc (size_of sizes p)) l (λ p m. ap suc (key_length p)) in
              let f = ap (total (λ p. suc (size_of sizes p))) s.is in
              omega (arith, a, b, e, f)
