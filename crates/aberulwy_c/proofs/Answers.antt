-- Reports handed over as numbers: what each arm of the calls needs.
use Rattle.std.specs.Prelude.{Result, Some, None, Option as Maybe}
use Prim.Native.Nat.{ℕ, ◌+◌, ◌≤◌, ◌<◌}
use mathlib.Core.Path.{◌≡◌, refl, sym, ◌∙◌, ap, subst}
use mathlib.Core.Bool.{Bool, true, false}
use mathlib.Core.List.{List, [], ◌∷◌}
use mathlib.Core.Option.{Option, none, some}
use native.Mathlib.Omega.{arith}
use lib.ListN.{length, get_or, take}
use lib.Dec.{leb}
use borrow.Author.Tests.{le-leb, lt-leb}
use Rattle.areas.specs.Area.{overwrite, padded}
use Rattle.areas.proofs.Area.{take-overwrite}
use Rattle.refusals.specs.declared.Refusal.{Refusal}
use Rattle.refusals.specs.Refusal.{Report, printed, refused_report}
use Rattle.checking.specs.declared.Checked.{Checked}
use Rattle.std.specs.Int.{from_bool}
use Rattle.aberulwy.specs.Judging.{bit}
use Rattle.aberulwy.specs.Rewriting.{unfold_report, check_report, own_report, BothOutcome}
use Rattle.listing.specs.Listing.{listing}
use Rattle.listing.specs.Writing.{ListOutcome, list_outcome}
use Rattle.listing.specs.Writing as listing_of
use Rattle.aberulwy_c.specs.Answers.{Returned, returned, out_numbers, own_numbers, of_both, HandedOver, if_fits, handed_over}
use Rattle.aberulwy_c.specs.Handing.{Answered, MaybeAnswered}

-- a report that is known answers for every report equal to it
pub answered : {Q R : Report} {n p v w : ℕ} → Q ≡ R → Answered Q n p v w → Answered R n p v w
answered {Q} {R} {n} {p} {v} {w} e h = subst (λ (x : Report). Answered x n p v w) e h

-- in the arm of an answer o that is known as v, the numbers of v's report
pub said : {A : Type 0} (say : A → Report) {o : A} {R : Report} (v : A) → o ≡ v → say o ≡ R
    → Answered R (say v).number (say v).place (get_or (say v).values 0 0) (get_or (say v).values 1 0)
said say v e h = answered (sym (ap say e) ∙ h) (record { number = refl; place = refl; first = refl; second = refl })

-- in the arm of a refusal, its number and its place
pub refused : {A : Type 0} (say : A → Report) {o v : A} {R : Report} (f : Refusal) {n p : ℕ} → o ≡ v → say o ≡ R → say v ≡ refused_report f
    → (n ≡ f.number) × (p ≡ printed f.place) → Answered R n p 0 0
refused say f e h k q = answered (sym k ∙ (sym (ap say e) ∙ h)) (record { number = q.0; place = q.1; first = refl; second = refl })

-- 1 for true and 0 for false, as the library has it
pub bit_of : (b : Bool) → from_bool b ≡ bit b
bit_of true = refl
bit_of false = refl

-- a report that may not be there: that of a check, and none
pub own-made : {o : Maybe (Result Checked Refusal)} {v : Result Checked Refusal} {n p x y : ℕ} → o ≡ Some v → Answered (check_report v) n p x y → MaybeAnswered (own_report o) 1 n p x y
own-made {n} {p} {x} {y} e h =
    subst (λ (z : Option Report). MaybeAnswered z 1 n p x y) (sym (ap own_report e)) (record { made = refl; answered = h })

-- bytes handed over: the area is too short, or they are put in with zeros behind them
pub too_short : (bytes out : List ℕ) → length out < length bytes → ◌≡◌ {A = HandedOver} (record { number = 1; size = 0; out = out }) (handed_over bytes out)
unfolding handed_over
too_short bytes out h = sym (ap (λ (b : Bool). if_fits b bytes out) (lt-leb (length bytes) (length out) h))

pub put_in : (bytes out : List ℕ) {out' : List ℕ} → length bytes ≤ length out → out' ≡ padded bytes (length out)
    → ◌≡◌ {A = HandedOver} (record { number = 0; size = length bytes; out = out' }) (handed_over bytes out)
unfolding handed_over
put_in bytes out h e = rw (e, le-leb (length bytes) (length out) h)

-- the same of bytes that are copied, and then zeros put behind them
pub copied : (bytes out : List ℕ) {out' out'' : List ℕ} {r : ℕ} → length bytes ≤ length out → (out' ≡ overwrite out 0 bytes) × (r ≡ 0 + length bytes)
    → length out' ≡ length out → out'' ≡ padded (take r out') (length out') → ◌≡◌ {A = HandedOver} (record { number = 0; size = r; out = out'' }) (handed_over bytes out)
copied bytes out {out'} {out''} {r} h e k g =
    let j : r ≡ length bytes = omega (arith, e.1) in
    let f : take r out' ≡ bytes = ap (λ (m : ℕ). take m out') e.1 ∙ ap (λ (m : List ℕ). take (0 + length bytes) m) e.0 ∙ take-overwrite out 0 bytes (omega arith) in
    let i : out'' ≡ padded bytes (length out) = g ∙ ap (λ (m : List ℕ). padded m (length out')) f ∙ ap (λ (m : ℕ). padded bytes m) k in
    ap (λ (m : ℕ). record { number = 0; size = m; out = out'' }) j ∙ put_in bytes out h i

-- a listing handed over, by the answer of the call that lists
abbrev listed_number : Maybe ℕ → ℕ
listed_number (Some k) = 0
listed_number None = 1

abbrev listed_size : Maybe ℕ → ℕ
listed_size (Some k) = k
listed_size None = 0

pub listed : (f out : List ℕ) {x : Maybe ℕ} {out' : List ℕ} (v : Maybe ℕ) → x ≡ v → ◌≡◌ {A = ListOutcome} (record { answer = x; out = out' }) (list_outcome f out)
    → ◌≡◌ {A = HandedOver} (record { number = listed_number v; size = listed_size v; out = out' }) (handed_over (listing f) out)
unfolding handed_over list_outcome
listed f out {x} {out'} v q e =
    ap (λ (z : Maybe ℕ). record { number = listed_number z; size = listed_size z; out = out' }) (sym q)
    ∙ ap (λ (o : ListOutcome). record { number = listed_number o.answer; size = listed_size o.answer; out = o.out }) e
    ∙ go (leb (length (listing f)) (length out))
  where
    go : (b : Bool) → record { number = listed_number (listing_of.if_fits b (listing f) out).answer; size = listed_size (listing_of.if_fits b (listing f) out).answer; out = (listing_of.if_fits b (listing f) out).out }
        ≡ if_fits b (listing f) out
    go true = refl
    go false = refl

-- the values of a report as out numbers
one_value : (v : List ℕ) → get_or v 0 0 ∷ [] ≡ out_numbers 1 v
unfolding out_numbers
one_value [] = refl
one_value (x ∷ v) = refl

two-values : (v : List ℕ) → get_or v 0 0 ∷ get_or v 1 0 ∷ [] ≡ out_numbers 2 v
unfolding out_numbers
two-values [] = refl
two-values (x ∷ []) = refl
two-values (x ∷ y ∷ v) = refl

-- what is returned, by the numbers that answer for a report: with no value, with one and with two
pub returned_0 : {R : Report} {n p v w : ℕ} → Answered R n p v w → ◌≡◌ {A = Returned} (record { number = n; place = p; values = []; areas = [] }) (returned 0 R [])
unfolding out_numbers
returned_0 a = rw (a.number, a.place) refl

pub returned_1 : {R : Report} {n p v w : ℕ} (areas : List (List ℕ)) → Answered R n p v w
    → ◌≡◌ {A = Returned} (record { number = n; place = p; values = v ∷ []; areas = areas }) (returned 1 R areas)
returned_1 {R} areas a = rw (a.number, a.place, a.first, one_value R.values) refl

pub returned_2 : {R : Report} {n p v w : ℕ} (areas : List (List ℕ)) → Answered R n p v w
    → ◌≡◌ {A = Returned} (record { number = n; place = p; values = v ∷ w ∷ []; areas = areas }) (returned 2 R areas)
returned_2 {R} areas a = rw (a.number, a.place, a.first, a.second, two-values R.values) refl

-- the numbers of a check that may not have been made
own-set : (R : Option Report) {m n p v w : ℕ} → MaybeAnswered R m n p v w → m ∷ n ∷ v ∷ w ∷ p ∷ [] ≡ own_numbers R
own-set none a = rw (a.made, a.answered.number, a.answered.place, a.answered.first, a.answered.second) refl
own-set (some R) a =
    rw (a.made, a.answered.number, a.answered.place, a.answered.first, a.answered.second, ← two-values R.values) refl

-- what is returned of an unfolding with that check
pub returned_both : {o q : BothOutcome} {n p s z m k i x y : ℕ} → o ≡ q
    → Answered (unfold_report o.unfolded.answer) n p s z → MaybeAnswered (own_report o.own.answer) m k i x y
    → ◌≡◌ {A = Returned} (record { number = n; place = p; values = s ∷ z ∷ m ∷ k ∷ x ∷ y ∷ i ∷ []; areas = o.unfolded.list ∷ o.unfolded.a ∷ o.unfolded.b ∷ o.own.a ∷ o.own.b ∷ [] })
    (of_both q)
returned_both {o} {q} {n} {p} {s} {z} e h j =
    rw (← e, ← own-set (own_report o.own.answer) j, ← two-values (unfold_report o.unfolded.answer).values, h.number, h.place, h.first, h.second) refl
