-- The next word of an accepted plan finds its operands among the starts, and starts where the code says.
use Prim.Native.Nat.{ℕ, suc, ◌≤◌, ◌<◌}
use native.Mathlib.Omega.{arith}
use mathlib.Core.Path.{◌≡◌, ◌∙◌, subst}
use mathlib.Core.List.{List, [], ◌∷◌, ◌++◌, append_assoc}
use mathlib.Core.Option.{none}
use lib.ListN.{length, get_or, take, drop, length-append}
use lib.Seq.{drop-cons, take_at}
use Rattle.plans.specs.Word.{word_of}
use Rattle.plans.specs.Judging.{words_refusal}
use Rattle.plans.specs.Start.{start_of}
use Rattle.plans.proofs.Place.{stack_at}
use Rattle.plans.proofs.Accepted.{accepted-term}
use Rattle.buffer.specs.Buffer.{whole, Held}
use Rattle.plans.specs.Start.{start_next, Operands}
use Rattle.plans.proofs.Starts.{begun, next_operands, next_start}
use Rattle.buffer.proofs.Whole.{held_gap, read-long}
use Rattle.areas.specs.Area.{most_words}

module _ (n : ℕ) (left starts right : List ℕ) (read rest : ℕ) (few : n ≤ 31) (more : rest < most_words) (h : Held n left starts right read rest)
    (accepted : words_refusal n (whole left right read rest) ≡ none) where
  take_next : take (suc read) (whole left right read rest) ≡ take read left ++ (get_or right rest 0 ∷ [])
  unfolding whole
  take_next =
      let v = take read left in
      let w = get_or right rest 0 in
      let l : length (v ++ (w ∷ [])) ≡ suc read = length-append v (w ∷ []) ∙ omega (arith, read-long left right read rest (held_gap h)) in
      rw (drop-cons right rest 0 (omega arith), ← append_assoc v (w ∷ []) (drop (suc rest) right)) (take_at (v ++ (w ∷ [])) (drop (suc rest) right) (suc read) l)

  pub next_word : Operands (word_of n (get_or right rest 0)) starts read
      × (start_next (word_of n (get_or right rest 0)) starts read ≡ start_of n (take read left ++ (get_or right rest 0 ∷ [])) read)
  next_word =
      let v = take read left in
      let w = get_or right rest 0 in
      let l : length v ≡ read = read-long left right read rest (held_gap h) in
      let u = accepted-term n few (whole left right read rest) accepted in
      let s = stack_at n (whole left right read rest) u.0 u.1 (suc read) in
      let b = begun n few v w s.0 (rw take_next at s.1) in
      let known : (k : ℕ) → k < length v → get_or starts k 0 ≡ start_of n v k = λ k q. h.starts_right k (rw l at q) in
      subst (λ m. Operands (word_of n w) starts m × (start_next (word_of n w) starts m ≡ start_of n (v ++ (w ∷ [])) m)) l (next_operands n v starts known b, next_start n v starts known b)
