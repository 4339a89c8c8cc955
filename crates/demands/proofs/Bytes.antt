-- Records that lead from one plan to another are made of bytes.
use Prim.Native.Nat.{ℕ, suc, zero, ◌+◌, ◌/◌, ◌%◌, ◌≤◌, ◌<◌}
use native.Mathlib.Omega.{arith}
use mathlib.Core.Path.{◌≡◌, subst}
use mathlib.Core.List.{List, [], ◌∷◌, ◌++◌}
use mathlib.Core.Option.{some}
use lib.ListN.{length, get_or}
use Rattle.areas.specs.Area.{most_words}
use Rattle.tables.specs.Tables.{Tables, actions}
use Rattle.plans.specs.declared.Unary.TheVariants.{Priority, Encapsulation}
use Rattle.plans.specs.Word.{unary_word}
use Rattle.plans.specs.Term.{Term, act, un, bin, words, Over}
use Rattle.plans.specs.Place.{subterm}
use Rattle.plans.proofs.Options.{and_then_some}
use Rattle.plans.proofs.Words.{binary_range}
use Rattle.plans.proofs.Place.{subterm-inside}
use Rattle.plans.proofs.Accepted.{accepted_iff_term}
use Rattle.laws.proofs.Tables.{Proper}
use Rattle.laws.proofs.Stepping.{step-made}
use Rattle.rewritings.specs.Moves.{record_of}
use Rattle.rewritings.specs.Records.{Recorded, forward, backward, bytes_of_one, bytes_of_all}
use Rattle.laws.specs.Step.{step_back}
use Rattle.checking.specs.Checking.{step_of}
use Rattle.checking.proofs.Accepting.{Trail, arrived, onward}
use Rattle.checking.proofs.Good.{Good, GoodAll}
use Rattle.demands.specs.Claims.{move_of}

-- lists of bytes
abbrev pub Bytes : List ℕ → Type 0
Bytes l = (i : ℕ) → get_or l i 0 < 256

one_byte : (c : ℕ) (l : List ℕ) → c < 256 → Bytes l → Bytes (c ∷ l)
one_byte c l h f zero = h
one_byte c l h f (suc i) = f i

no_byte : Bytes []
no_byte i = omega arith

more_bytes : (l m : List ℕ) → Bytes l → Bytes m → Bytes (l ++ m)
more_bytes [] m f g i = g i
more_bytes (c ∷ l) m f g zero = f 0
more_bytes (c ∷ l) m f g (suc i) = more_bytes l m (λ j. f (suc j)) g i

two_bytes : (p : ℕ) (l : List ℕ) → p ≤ 65535 → Bytes l → Bytes (p % 256 ∷ (p / 256 ∷ l))
two_bytes p l h f = one_byte (p % 256) (p / 256 ∷ l) (omega arith) (one_byte (p / 256) l (omega arith) f)

words_bytes : (n : ℕ) → n ≤ 31 → (u : Term) → Over n u → Bytes (words u)
unfolding words unary_word
words_bytes n few (act a) f = one_byte a [] (omega arith) no_byte
words_bytes n few (un Priority u) f = more_bytes (words u) _ (words_bytes n few u f.1) (one_byte _ [] (omega arith) no_byte)
words_bytes n few (un (Encapsulation h) u) f = let s : h ≤ 7 = f.0 in more_bytes (words u) _ (words_bytes n few u f.1) (one_byte _ [] (omega arith) no_byte)
words_bytes n few (bin o u v) f =
    let r = binary_range o in
    more_bytes (words u) _ (words_bytes n few u f.0) (more_bytes (words v) _ (words_bytes n few v f.1) (one_byte _ [] (omega arith) no_byte))

move_bytes : (k p : ℕ) → k < 256 → p ≤ 65535 → Bytes (record_of k p)
unfolding record_of
move_bytes k p i h = one_byte k (p % 256 ∷ (p / 256 ∷ [])) i (two_bytes p [] h no_byte)

record_bytes : (n : ℕ) → n ≤ 31 → (r : Recorded) → Good n r → (move_of r).place ≤ 65535 → Bytes (bytes_of_one r)
unfolding bytes_of_one
record_bytes n few (forward m) g h = move_bytes m.law m.place (omega (arith, g.1)) h
record_bytes n few (backward m left) g h =
    let u = (accepted_iff_term n few left).0 g.1 in
    more_bytes (record_of (128 + m.law) m.place) (length left % 256 ∷ (length left / 256 ∷ left))
    (move_bytes (128 + m.law) m.place (omega (arith, g.0.1)) h)
    (two_bytes (length left) left (omega (arith, u.3)) (subst Bytes u.1 (words_bytes n few u.0 u.2)))

-- a step is made inside the plan
place_inside : (t : Tables) (r : Recorded) (w next : List ℕ) → step_of t r w ≡ some next → (move_of r).place < length w
unfolding step_of step_back
place_inside t (forward m) w next e = let c = step-made t m.law m.place w next e in subterm-inside (actions t) w m.place c.0 c.2
place_inside t (backward m left) w next e =
    let c = and_then_some (subterm (actions t) w m.place) _ e in subterm-inside (actions t) w m.place c.0 c.1

pub trail_bytes : {t : Tables} {c : ℕ} {rs : List Recorded} {w z : List ℕ} → Proper t → c ≤ most_words → Trail t c rs w z → GoodAll (actions t) rs → length w ≤ c
    → Bytes (bytes_of_all rs)
unfolding bytes_of_all
trail_bytes ok few arrived g h = no_byte
trail_bytes {t = t} ok few (onward {r = r} {rs = rs} {w = w} next e i tr) g h =
    let p = place_inside t r w next e in
    more_bytes (bytes_of_one r) (bytes_of_all rs) (record_bytes (actions t) ok.few r g.0 (omega arith)) (trail_bytes ok few tr g.1 i)
