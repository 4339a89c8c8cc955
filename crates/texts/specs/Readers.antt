-- Nobody need believe this: contracts of functions cite it. What the three readers, for a sum, a product and a unit, do to the text that is left.
-- Each reads from place q, where the text r is left and d brackets are open, to place q', where r' is left, and gives the words w;
-- or it stops with a fault. Whatever brackets and signs wait around it, reading goes on as from there.
use Rattle.std.specs.Prelude.{ℕ, ◌+◌, ◌≤◌, ◌<◌, ◌≡◌, Bool, true, false, cond, List, [], ◌∷◌, ◌++◌, length, drop, eqb, ltb, ⊤, Result, Ok, Err, Some, None, Option as Maybe}
use Rattle.std.proofs.Math.Option.{Option, none, some}
use Rattle.std.proofs.lemmas.List.Edits.{sets}
use Rattle.refusals.specs.declared.Reason.TheVariants.{NoText, TooDeep}
use Rattle.refusals.specs.Refusal.{number_of}
use Rattle.plans.specs.declared.Binary.{Binary}
use Rattle.grammar.specs.declared.Bracket.{Bracket}
use Rattle.grammar.specs.declared.Bracket.TheVariants.{Plain, OfPriority, OfSet, Second}
use Rattle.grammar.specs.Character.{plus, dot, opening, closing, blank}
use Rattle.grammar.specs.Grammar.{deepest}
use Rattle.grammar.specs.States.{numeral, between_of, Frame, frame, unit, done, followed}
use Rattle.grammar.specs.Reading.{byte_of, Plan, Fault, read_from, read_text}
use Rattle.texts.specs.declared.units.Begun.{Begun}
use Rattle.texts.specs.declared.units.Begun.TheVariants.{Action, Opened}
use Rattle.texts.specs.declared.units.Behind.{Behind}
use Rattle.texts.specs.declared.units.Behind.TheVariants.{Closed, Sign}
use Rattle.texts.specs.declared.units.Fault.{Fault as FaultFound}
use Rattle.texts.specs.declared.readers.Progress.{Progress}

abbrev pub UnitReads : ℕ → ℕ → ℕ → List ℕ → ℕ → List ℕ → List ℕ → Type 0
UnitReads n d q r q' r' w = (p e : Bool) (k : List Frame) (v : List ℕ) → length k ≡ d
    → read_from n q (unit p e k v) r ≡ read_from n q' (done p k (followed byte_of e (v ++ w))) r'

abbrev pub ProductReads : ℕ → ℕ → ℕ → List ℕ → ℕ → List ℕ → List ℕ → Type 0
ProductReads n d q r q' r' w = (p : Bool) (k : List Frame) (v : List ℕ) → length k ≡ d
    → read_from n q (unit p false k v) r ≡ read_from n q' (done p k (v ++ w)) r'

abbrev pub SumReads : ℕ → ℕ → ℕ → List ℕ → ℕ → List ℕ → List ℕ → Type 0
SumReads n d q r q' r' w = (k : List Frame) (v : List ℕ) → length k ≡ d
    → read_from n q (unit false false k v) r ≡ read_from n q' (done false k (v ++ w)) r'

-- a fault of number c at place f
abbrev pub UnitStops : ℕ → ℕ → ℕ → List ℕ → ℕ → ℕ → Type 0
UnitStops n d q r c f = (p e : Bool) (k : List Frame) (v : List ℕ) → length k ≡ d → read_from n q (unit p e k v) r ≡ Fault c f

abbrev pub ProductStops : ℕ → ℕ → ℕ → List ℕ → ℕ → ℕ → Type 0
ProductStops n d q r c f = (p : Bool) (k : List Frame) (v : List ℕ) → length k ≡ d → read_from n q (unit p false k v) r ≡ Fault c f

abbrev pub SumStops : ℕ → ℕ → ℕ → List ℕ → ℕ → ℕ → Type 0
SumStops n d q r c f = (k : List Frame) (v : List ℕ) → length k ≡ d → read_from n q (unit false false k v) r ≡ Fault c f

-- a bracket b has been opened since place q, and the words w were written in it before its last sum, which begins at place q'
abbrev pub Enters : ℕ → ℕ → ℕ → List ℕ → Bracket → ℕ → List ℕ → List ℕ → Type 0
Enters n d q r b q' r' w = (p e : Bool) (k : List Frame) (v : List ℕ) → length k ≡ d
    → read_from n q (unit p e k v) r ≡ read_from n q' (unit false false (frame b p e ∷ k) (v ++ w)) r'

-- whether character c is next; the digit, up to m, and the sign between two sums that is
abbrev pub next_is : ℕ → List ℕ → Bool
next_is c [] = false
next_is c (b ∷ r) = eqb b c

abbrev pub next_numeral : ℕ → List ℕ → Option ℕ
next_numeral m [] = none
next_numeral m (c ∷ r) = numeral m c

abbrev pub next_between : List ℕ → Option Binary
next_between [] = none
next_between (c ∷ r) = between_of c

-- the same as the code answers it
abbrev pub numeral_found : Option ℕ → Maybe ℕ
numeral_found none = None
numeral_found (some d) = Some d

abbrev pub sign_found : Option Binary → Maybe Binary
sign_found none = None
sign_found (some o) = Some o

-- whether a sign may follow the sum in a bracket; and that a set has a number up to 7
abbrev pub plain? : Bracket → Bool
plain? Plain = true
plain? OfPriority = false
plain? (OfSet h) = false
plain? (Second o) = false

abbrev pub SetSmall : Bracket → Type 0
SetSmall Plain = Unit
SetSmall OfPriority = Unit
SetSmall (OfSet h) = h ≤ 7
SetSmall (Second o) = Unit

-- what a reader leaves in an array, where m words were counted before and m' after: the words w, as far as the array reaches
pub record Stored (array array' : List ℕ) (m m' : ℕ) (w : List ℕ) : Type 0 where
  pub counted : m' ≡ m + length w
  pub stored : array' ≡ sets array m w

-- fault 61 at place q; and it, unless character c stands there
abbrev pub no_text : ℕ → FaultFound
no_text q = record { reason = NoText; place = q }

abbrev pub expected : ℕ → ℕ → List ℕ → Result ⊤ FaultFound
expected c q text = cond (next_is c (drop q text)) (Ok tt) (Err (no_text q))

-- a bracket whose `(` is to stand at place q
abbrev pub opened : List ℕ → ℕ → ℕ → Bracket → Result Begun FaultFound
opened text q d b =
    cond (next_is opening (drop q text)) (cond (ltb d deepest) (Ok (Opened b (q + 1))) (Err (record { reason = TooDeep; place = q }))) (Err (no_text q))

-- how a unit begins at place q
pub record Opens (n d : ℕ) (text : List ℕ) (q : ℕ) (b : Bracket) (j : ℕ) : Type 0 where
  pub enters : Enters n d q (drop q text) b j (drop j text) []
  pub set_small : SetSmall b
  pub shallow : d < deepest
  pub on : q < j
  pub inside : j ≤ length text

pub record Acts (n d : ℕ) (text : List ℕ) (q a j : ℕ) : Type 0 where
  pub is_read : UnitReads n d q (drop q text) j (drop j text) (a ∷ [])
  pub on : q < j
  pub inside : j ≤ length text

abbrev pub BegunRight : ℕ → ℕ → List ℕ → ℕ → Result Begun FaultFound → Type 0
BegunRight n d text q (Ok (Action a j)) = Acts n d text q a j
BegunRight n d text q (Ok (Opened b j)) = Opens n d text q b j
BegunRight n d text q (Err e) = UnitStops n d q (drop q text) (number_of e.reason) e.place

-- what stands at place q, behind the sum that a bracket b begins with
pub record Signs (text : List ℕ) (q : ℕ) (b : Bracket) (o : Binary) : Type 0 where
  pub character : ℕ
  pub plain : b ≡ Plain
  pub left : drop q text ≡ blank ∷ character ∷ blank ∷ drop (q + 3) text
  pub sign : between_of character ≡ some o
  pub inside : q + 3 ≤ length text

abbrev pub WrongBehind : Bracket → ℕ → List ℕ → ℕ → Type 0
WrongBehind b q'' r' f = (n d q q' : ℕ) (r₀ r w : List ℕ) → d < deepest → Enters n d q r₀ b q' r [] → SumReads n (d + 1) q' r q'' r' w
    → next_is dot r' ≡ false → next_is plus r' ≡ false → UnitStops n d q r₀ 61 f

abbrev pub BehindRight : List ℕ → ℕ → Bracket → Result Behind FaultFound → Type 0
BehindRight text q b (Ok Closed) = next_is closing (drop q text) ≡ true
BehindRight text q b (Ok (Sign o)) = Signs text q b o
BehindRight text q b (Err e) = (number_of e.reason ≡ 61) × WrongBehind b q (drop q text) e.place

-- where a reader may begin: every character makes one word at most
abbrev pub Ready : List ℕ → ℕ → ℕ → ℕ → Type 0
Ready text q d m = (q ≤ length text) × (d ≤ deepest) × (m ≤ q)

-- a reader that began at place q with m words came to place j with m'
pub record Reached (Reads : ℕ → List ℕ → List ℕ → Type 0) (text array array' : List ℕ) (q m j m' : ℕ) : Type 0 where
  pub out : List ℕ
  pub is_read : Reads j (drop j text) out
  pub stored : Stored array array' m m' out
  pub on : q < j
  pub inside : j ≤ length text
  pub few : q + length out ≤ j

abbrev pub UnitTo : ℕ → ℕ → List ℕ → ℕ → ℕ → List ℕ → List ℕ → Type 0
UnitTo n d text q j r w = UnitReads n d q (drop q text) j r w

-- a product ends where no `.` is next, a sum where neither `.` nor `+` is
abbrev pub ProductTo : ℕ → ℕ → List ℕ → ℕ → ℕ → List ℕ → List ℕ → Type 0
ProductTo n d text q j r w = ProductReads n d q (drop q text) j r w × (next_is dot r ≡ false)

abbrev pub SumTo : ℕ → ℕ → List ℕ → ℕ → ℕ → List ℕ → List ℕ → Type 0
SumTo n d text q j r w = SumReads n d q (drop q text) j r w × (next_is dot r ≡ false) × (next_is plus r ≡ false)

abbrev pub UnitDone : ℕ → ℕ → List ℕ → ℕ → List ℕ → List ℕ → ℕ → Result Progress FaultFound → Type 0
UnitDone n d text q array array' m (Ok to) = Reached (UnitTo n d text q) text array array' q m to.at to.words
UnitDone n d text q array array' m (Err e) = UnitStops n d q (drop q text) (number_of e.reason) e.place

abbrev pub ProductDone : ℕ → ℕ → List ℕ → ℕ → List ℕ → List ℕ → ℕ → Result Progress FaultFound → Type 0
ProductDone n d text q array array' m (Ok to) = Reached (ProductTo n d text q) text array array' q m to.at to.words
ProductDone n d text q array array' m (Err e) = ProductStops n d q (drop q text) (number_of e.reason) e.place

abbrev pub SumDone : ℕ → ℕ → List ℕ → ℕ → List ℕ → List ℕ → ℕ → Result Progress FaultFound → Type 0
SumDone n d text q array array' m (Ok to) = Reached (SumTo n d text q) text array array' q m to.at to.words
SumDone n d text q array array' m (Err e) = SumStops n d q (drop q text) (number_of e.reason) e.place

-- a whole text
pub record ReadWhole (n : ℕ) (text array array' : List ℕ) (m : ℕ) : Type 0 where
  pub out : List ℕ
  pub is_read : read_text n text ≡ Plan out
  pub stored : Stored array array' 0 m out

abbrev pub WholeDone : ℕ → List ℕ → List ℕ → List ℕ → Result ℕ FaultFound → Type 0
WholeDone n text array array' (Ok m) = ReadWhole n text array array' m
WholeDone n text array array' (Err e) = read_text n text ≡ Fault (number_of e.reason) e.place
