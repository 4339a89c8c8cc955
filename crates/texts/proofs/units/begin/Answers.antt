-- `texts::units::begin` meets its contract.
use mathlib.Core.Path.{◌≡◌, sym, ◌∙◌}
use mathlib.Core.Bool.{true, false}
use mathlib.Core.Option.{none, some}
use lib.ListN.{drop}
use Prim.Native.Nat.{◌+◌}
use Rattle.grammar.specs.Character.{tee, aitch}
use Rattle.texts.specs.Readers.{next_is, next_numeral}
use Rattle.texts.proofs.Next.{found_value, found_none}
use Rattle.texts.proofs.Beginnings.{begins-plain, begins-priority, begins-set, begins_no_set}
use Rattle.texts.proofs.units.begin.Goals as goal

pub returns-then-next_is : goal.returns-then-next_is
returns-then-next_is c =
    let s = c.args in
    let a-tee : next_is tee (drop s.at s.text.now) ≡ true = sym c.next_is.ensures ∙ c.if-next_is.true in
    rw c.open.ensures (begins-priority s.n s.depth s.text.now s.at c.requires a-tee)

pub returns-then-next_is-2 : goal.returns-then-next_is-2
returns-then-next_is-2 c =
    let s = c.args in
    let an-aitch : next_is aitch (drop s.at s.text.now) ≡ true = sym c.next_is-2.ensures ∙ c.if-next_is-2.true in
    let a-set : next_numeral 7 (drop (s.at + 1) s.text.now) ≡ some c.in-Some-numeral_at.set = found_value _ (sym c.numeral_at-then-next_is-2.ensures ∙ c.in-Some-numeral_at.is) in
    rw c.open-then-next_is-2.ensures (begins-set s.n s.depth s.text.now s.at _ c.requires an-aitch a-set)

pub returns-in_default-numeral_at : goal.returns-in_default-numeral_at
returns-in_default-numeral_at c =
    let s = c.args in
    let an-aitch : next_is aitch (drop s.at s.text.now) ≡ true = sym c.next_is-2.ensures ∙ c.if-next_is-2.true in
    let no-set : next_numeral 7 (drop (s.at + 1) s.text.now) ≡ none = found_none _ (sym c.numeral_at-then-next_is-2.ensures ∙ c.in_default-numeral_at.is) in
    rw c.no_text.ensures (begins_no_set s.n s.depth s.text.now s.at c.requires an-aitch no-set)

pub returns : goal.returns
returns c =
    let s = c.args in
    let no_digit : next_numeral 9 (drop s.at s.text.now) ≡ none = found_none _ (sym c.numeral_at.ensures ∙ c.in_default.is) in
    let no-tee : next_is tee (drop s.at s.text.now) ≡ false = sym c.next_is.ensures ∙ c.if-next_is.false in
    let no-aitch : next_is aitch (drop s.at s.text.now) ≡ false = sym c.next_is-2.ensures ∙ c.if-next_is-2.false in
    rw c.open-2.ensures (begins-plain s.n s.depth s.text.now s.at c.requires no_digit no-tee no-aitch)
