-- Where subplans start: what an earlier place's start goes by, and how a word more starts.
use Prim.Native.Nat.{ℕ, suc, ◌+◌, ◌-◌, ◌≤◌, ◌<◌}
use native.Mathlib.Omega.{arith}
use mathlib.Core.Path.{◌≡◌, ap, sym, ◌∙◌, subst}
use mathlib.Core.List.{List, [], ◌∷◌, ◌++◌}
use mathlib.Core.Option.{some, some-injective}
use lib.ListN.{length, get_or, take, length-append}
use lib.Seq.{take_all}
use Rattle.plans.specs.declared.Binary.{Binary}
use Rattle.plans.specs.declared.Unary.{Unary}
use Rattle.plans.specs.declared.Word.{Word}
use Rattle.plans.specs.declared.Word.TheVariants.{Action, One, Two, NoWord}
use Rattle.plans.specs.Word.{word_of}
use Rattle.plans.specs.Term.{Term, act, un, bin, words, push, read}
use Rattle.plans.specs.Start.{start_of, start_next, Operands}
use Rattle.plans.proofs.Options.{never, and_then_some}
use Rattle.plans.specs.Stack.{spell}
use Rattle.plans.proofs.Reading.{OverAll, read-append, read-spell, read-said}
use Rattle.plans.proofs.Place.{stack-subterm}
use Rattle.plans.proofs.Start.{start-prefix}
use Rattle.plans.proofs.Accepted.{words_some}

-- The last of the terms that wait starts where the words of the others end.
module _ (n : ℕ) (few : n ≤ 31) where
  start-top : (t : Term) (s : List Term) (p : ℕ) → OverAll n (t ∷ s) → length (spell (t ∷ s)) ≡ suc p → start_of n (spell (t ∷ s)) p ≡ length (spell s)
  unfolding start_of spell
  start-top t s p over e =
      let ws = spell (t ∷ s) in
      let r : read n (take (suc p) ws) [] ≡ some (t ∷ s) = rw (take_all (suc p) ws (omega arith)) (read-spell n few (t ∷ s) over) in
      rw (stack-subterm n ws p t s (omega arith) r) (omega (arith, length-append (spell s) (words t)))

-- The start of the place after the words v, by the word that comes there.
pub data Begun (n : ℕ) (v : List ℕ) (at : ℕ) : Word → Type 0 where
  at_action : {a : ℕ} → at ≡ length v → Begun n v at (Action a)
  at_one : {o : Unary} → 1 ≤ length v → at ≡ start_of n v (length v - 1) → Begun n v at (One o)
  at_two : {o : Binary} → 1 ≤ length v → 1 ≤ start_of n v (length v - 1) → start_of n v (length v - 1) < length v
      → at ≡ start_of n v (start_of n v (length v - 1) - 1) → Begun n v at (Two o)

-- how many words a term adds
spell-more : (t : Term) (s : List Term) → (length (spell (t ∷ s)) ≡ length (spell s) + length (words t)) × (1 ≤ length (words t))
unfolding spell
spell-more t s = (length-append (spell s) (words t), words_some t)

module _ (n : ℕ) (few : n ≤ 31) where
  -- the term that a word makes, and the last but one of those that wait
  last-start : (t : Term) (s s' : List Term) (v : List ℕ) (w : ℕ) → t ∷ s ≡ s' → OverAll n s' → spell s' ≡ v ++ (w ∷ [])
      → start_of n (v ++ (w ∷ [])) (length v) ≡ length (spell s)
  last-start t s s' v w q over e =
      rw (← e, ← q) (start-top n few t s (length v) (subst (OverAll n) (sym q) over) (ap (λ r. length (spell r)) q ∙ ap length e ∙ rw (length-append v (w ∷ [])) (omega arith)))

  under-start : (y x : Term) (s : List Term) → OverAll n (y ∷ (x ∷ s)) → start_of n (spell (y ∷ (x ∷ s))) (length (spell (x ∷ s)) - 1) ≡ length (spell s)
  unfolding spell
  under-start y x s over =
      let p = length (spell (x ∷ s)) - 1 in
      let m = spell-more x s in
      start-prefix n (spell (x ∷ s)) (words y) p (omega arith) ∙ start-top n few x s p over.1 (omega arith)

  turn : (k : Word) (s s' : List Term) (w : ℕ) → push k s ≡ some s' → OverAll n s → OverAll n s' → spell s' ≡ spell s ++ (w ∷ [])
      → Begun n (spell s) (start_of n (spell s ++ (w ∷ [])) (length (spell s))) k
  unfolding push
  turn (Action a) s s' w e f f' i = at_action (last-start (act a) s s' (spell s) w (some-injective _ _ e) f' i)
  turn (One o) [] s' w e f f' i = never e
  turn (One o) (x ∷ s) s' w e f f' i =
      let m = spell-more x s in
      let a = last-start (un o x) s s' (spell (x ∷ s)) w (some-injective _ _ e) f' i in
      at_one (omega arith) (a ∙ sym (start-top n few x s (length (spell (x ∷ s)) - 1) f (omega arith)))
  turn (Two o) [] s' w e f f' i = never e
  turn (Two o) (y ∷ []) s' w e f f' i = never e
  turn (Two o) (y ∷ (x ∷ s)) s' w e f f' i =
      let m = spell-more y (x ∷ s) in
      let k = spell-more x s in
      let a = last-start (bin o x y) s s' (spell (y ∷ (x ∷ s))) w (some-injective _ _ e) f' i in
      let b = start-top n few y (x ∷ s) (length (spell (y ∷ (x ∷ s))) - 1) f (omega arith) in
      at_two (omega arith) (omega arith) (omega arith) (a ∙ sym (rw b (under-start y x s f)))
  turn NoWord s s' w e f f' i = never e

  -- the start of the last place of words that can be read, by its word
  pub begun : (v : List ℕ) (w : ℕ) (s' : List Term) → read n (v ++ (w ∷ [])) [] ≡ some s' → Begun n v (start_of n (v ++ (w ∷ [])) (length v)) (word_of n w)
  unfolding read spell
  begun v w s' e =
      let c = and_then_some (read n v []) (λ s. read n (w ∷ []) s) (sym (read-append n v (w ∷ []) []) ∙ e) in
      let d = and_then_some (push (word_of n w) c.0) (λ s. some s) c.2 in
      let a = read-said n v [] c.0 tt c.1 in
      let b = read-said n (v ++ (w ∷ [])) [] s' tt e in
      let p : push (word_of n w) c.0 ≡ some s' = d.1 ∙ d.2 in
      rw (← a.0) (turn (word_of n w) c.0 s' w p a.1 b.1 (b.0 ∙ ap (λ l. l ++ (w ∷ [])) (sym a.0)))

-- the operands and the start of a word that comes after words whose starts are known
module _ (n : ℕ) (v starts : List ℕ) (known : (k : ℕ) → k < length v → get_or starts k 0 ≡ start_of n v k) where
  pub next_operands : {at : ℕ} {k : Word} → Begun n v at k → Operands k starts (length v)
  next_operands (at_action e) = tt
  next_operands (at_one l e) = l
  next_operands (at_two l a b e) = let q = known (length v - 1) (omega arith) in (l, omega arith, omega arith)

  pub next_start : {at : ℕ} {k : Word} → Begun n v at k → start_next k starts (length v) ≡ at
  unfolding start_next
  next_start (at_action e) = sym e
  next_start (at_one l e) = known (length v - 1) (omega arith) ∙ sym e
  next_start (at_two l a b e) =
      rw (known (length v - 1) (omega arith)) (known (start_of n v (length v - 1) - 1) (omega arith) ∙ sym e)
