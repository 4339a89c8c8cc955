-- All words taken: the one part that is left, closed, is the form, and is put into the area.
use Prim.Native.Nat.{ℕ, suc, zero, ◌+◌, ◌-◌, ◌≤◌, ◌<◌}
use native.Mathlib.Omega.{arith}
use mathlib.Core.Path.{◌≡◌, refl, sym, ap, subst, ◌∙◌}
use mathlib.Core.Bool.{cond}
use mathlib.Core.List.{List, [], ◌∷◌}
use lib.ListN.{length, get_or, take, drop, length-append, drop_of_length-le}
use lib.Seq.{take-append_seam}
use lib.Dec.{ltb}
use borrow.Author.Tests.{lt-ltb, le-ltb}
use Rattle.areas.specs.Area.{most_words, overwrite, padded}
use Rattle.areas.proofs.Area.{padded-whole}
use Rattle.forms.specs.Gathering.{join, sorted, gather, spell_top, form_by_sorting}
use Rattle.chains.specs.Chain.{word_at, walk, chain, linked}
use Rattle.chains.proofs.Paths.{walk_front}
use Rattle.fixing.specs.Gathered.{span, parts, Gathered, kept, Closed, Gatherable}
use Rattle.fixing.proofs.Closing.{Shut, shut}
use Rattle.fixing.proofs.Steps.{parts_low}

-- at the end the one part that is left, closed, is the form
module _ {ws : List ℕ} {links sizes ends entries starts : List ℕ} {c d : ℕ} (few : length ws ≤ most_words) (g : Gathered ws (length ws) links sizes ends entries starts c (suc d))
    (links' part' : List ℕ) (size : ℕ) (closed : Closed ws links sizes ends (take (c - get_or starts d 0) (drop (get_or starts d 0) entries)) (length ws) links' part' size) where
  abbrev s : ℕ
  s = get_or starts d 0

  abbrev key' : ℕ → List ℕ
  key' = chain ws links sizes

  at_end : Shut few few g
  at_end = shut few few g

  -- the words of the form
  abbrev formed : List ℕ
  formed = join (sorted (span key' entries s (c - s)))

  form_words : formed ≡ form_by_sorting ws
  unfolding form_by_sorting gather spell_top parts
  form_words = ap spell_top (rw (drop_of_length-le ws {i = length ws} (omega arith)) at g.left)

  form-size : length formed + 1 ≡ size
  form-size = sym (length-append formed (word_at ws (length ws) ∷ [])) ∙ (ap length (sym at_end.spelled) ∙ (at_end.long ∙ sym closed.added))

  form-length : length (form_by_sorting ws) ≡ size - 1
  form-length = omega (arith, form-size, ap length form_words)

  form_walked : walk ws links' (size - 1) (get_or part' 0 0) ≡ form_by_sorting ws
  form_walked =
      let k : size - 1 ≡ length formed = omega (arith, form-size) in
      let first = closed.first ∙ ap (λ l. get_or l 0 0) at_end.some.is in
      let spells = at_end.tied.spells in
      let whole = ap (λ n. walk ws (linked links ends (kept ws links sizes (take (c - s) (drop s entries))) (length ws)) n at_end.some.first) (sym (length-append formed (word_at ws (length ws) ∷ [])) ∙ ap length (sym at_end.spelled)) ∙ (spells.words ∙ at_end.spelled) in
      rw (k, closed.tied, first)
      (walk_front ws (linked links ends (kept ws links sizes (take (c - s) (drop s entries))) (length ws)) (length formed) 1 at_end.some.first
      ∙ (ap (take (length formed)) whole ∙ (take-append_seam formed (word_at ws (length ws) ∷ []) ∙ form_words)))

-- where the form has a word, a part is left
pub some_part : (ws links sizes ends entries starts : List ℕ) (c n : ℕ) → Gathered ws (length ws) links sizes ends entries starts c n → 1 ≤ length (form_by_sorting ws) → 1 ≤ n
unfolding form_by_sorting gather spell_top parts
some_part ws links sizes ends entries starts c zero g h =
    let e : length (form_by_sorting ws) ≡ 0 = ap (λ p. length (spell_top p)) (sym (rw (drop_of_length-le ws {i = length ws} (omega arith)) at g.left)) in
    absurd (omega (arith, h, e))
some_part ws links sizes ends entries starts c (suc n) g h = omega arith

-- the form, of n parts, as the code counts them
module _ {ws : List ℕ} {links sizes ends entries starts : List ℕ} {c n : ℕ} (few : length ws ≤ most_words) (g : Gathered ws (length ws) links sizes ends entries starts c n) (one : 1 ≤ n) where
  by_one : n ≡ suc (n - 1)
  by_one = omega arith

  on_one : Gathered ws (length ws) links sizes ends entries starts c (suc (n - 1))
  on_one = subst (Gathered ws (length ws) links sizes ends entries starts c) by_one g

  pub end_below : get_or starts (n - 1) 0 < c
  end_below = on_one.climbs.0

  module _ (links' part' : List ℕ) (size : ℕ) (closed : Closed ws links sizes ends (take (c - get_or starts (n - 1) 0) (drop (get_or starts (n - 1) 0) entries)) (length ws) links' part' size) where
    pub end-size : length (form_by_sorting ws) ≡ size - 1
    end-size = form-length few on_one links' part' size closed

    pub end_some : 1 ≤ size
    end_some = omega (arith, form-size few on_one links' part' size closed)

    pub end-walked : walk ws links' (size - 1) (get_or part' 0 0) ≡ form_by_sorting ws
    end-walked = form_walked few on_one links' part' size closed

-- the part that is left of a plan whose form is gathered: where it begins and ends
pub record LastPart (starts : List ℕ) (c n : ℕ) : Type 0 where
  pub some : 1 ≤ n
  pub few : n ≤ most_words
  pub below : get_or starts (n - 1) 0 < c
  pub within : c ≤ most_words

pub last_part : {ws links sizes ends entries starts : List ℕ} {c n : ℕ} → Gatherable ws
    → Gathered ws (length ws) links sizes ends entries starts c n → LastPart starts c n
last_part r g =
    let one = some_part _ _ _ _ _ _ _ _ g r.some_words in
    record { some = one; few = omega (arith, parts_low g, r.few); below = end_below r.few g one; within = omega (arith, g.few, r.few) }

-- the form put into an area that is long enough, and zeros behind it
pub put_whole : (a a₁ a₂ w : List ℕ) (k : ℕ) → k ≡ length w → k ≤ length a → a₁ ≡ overwrite a 0 w → length a₁ ≡ length a → a₂ ≡ padded (take k a₁) (length a₁) → a₂ ≡ cond (ltb (length a) k) a (padded w (length a))
put_whole a a₁ a₂ w k e h p l q = rw (le-ltb (length a) k h, q, e) (padded-whole a a₁ w (omega arith) l p)

pub put-nothing : (a w : List ℕ) (k : ℕ) → length a < k → a ≡ cond (ltb (length a) k) a (padded w (length a))
put-nothing a w k h = rw (lt-ltb (length a) k h) refl
