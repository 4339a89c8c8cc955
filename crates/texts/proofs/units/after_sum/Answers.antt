-- `texts::units::after_sum` meets its contract.
use Prim.Native.Nat.{◌+◌}
use mathlib.Core.Path.{◌≡◌, refl, sym, ◌∙◌}
use mathlib.Core.Bool.{true, false}
use mathlib.Core.Option.{none, some}
use lib.ListN.{drop}
use Rattle.std.proofs.Common.{Err, rules}
use Rattle.grammar.specs.Character.{closing, blank}
use Rattle.texts.specs.Readers.{next_is, next_between, plain?}
use Rattle.texts.proofs.Next.{found_sign, found_no_sign, met, missing}
use Rattle.texts.proofs.Endings.{wrong_in_sign, wrong_blank, wrong_sign, wrong_second-blank, sign-stands}
use Rattle.texts.proofs.units.after_sum.Goals as goal

pub returns-then-not-is_plain : goal.returns-then-not-is_plain
returns-then-not-is_plain c =
    let s = c.args in
    let signed : plain? s.bracket ≡ false = sym c.is_plain.ensures ∙ c.if-not-is_plain.true in
    let not_closed : next_is closing (drop s.at s.text.now) ≡ false = sym c.next_is.ensures ∙ c.if-next_is.false in
    rw c.no_text.ensures (refl, wrong_in_sign s.text.now s.at s.bracket signed not_closed)

pub returns-in_err-expect : goal.returns-in_err-expect
returns-in_err-expect c =
    let s = c.args in
    let not_closed : next_is closing (drop s.at s.text.now) ≡ false = sym c.next_is.ensures ∙ c.if-next_is.false in
    let gone = missing blank s.at s.text.now c.expect.ensures c.in_err-expect.was in
    let e : c.from_residual.result ≡ Err c.in_err-expect.field-0.0 = search rules in
    rw (e, gone.fault) (refl, wrong_blank s.text.now s.at s.bracket not_closed gone.none_there)

pub returns-in_default : goal.returns-in_default
returns-in_default c =
    let s = c.args in
    let plain : plain? s.bracket ≡ true = sym c.is_plain.ensures ∙ c.if-not-is_plain.false in
    let a-blank = met blank s.at s.text.now c.expect.ensures c.in_ok-expect.was in
    let no_sign : next_between (drop (s.at + 1) s.text.now) ≡ none = found_no_sign _ (sym c.sign_at.ensures ∙ c.in_default.is) in
    rw c.no_text-in_default.ensures (refl, wrong_sign s.text.now s.at s.bracket plain a-blank no_sign)

pub returns-in_err-expect-2 : goal.returns-in_err-expect-2
returns-in_err-expect-2 c =
    let s = c.args in
    let plain : plain? s.bracket ≡ true = sym c.is_plain.ensures ∙ c.if-not-is_plain.false in
    let a-blank = met blank s.at s.text.now c.expect.ensures c.in_ok-expect.was in
    let a-sign : next_between (drop (s.at + 1) s.text.now) ≡ some c.in-Some.sign = found_sign _ (sym c.sign_at.ensures ∙ c.in-Some.is) in
    let gone = missing blank (s.at + 2) s.text.now c.expect-2.ensures c.in_err-expect-2.was in
    let e : c.from_residual-in_err-expect-2.result ≡ Err c.in_err-expect-2.field-0.0 = search rules in
    rw (e, gone.fault) (refl, wrong_second-blank s.text.now s.at s.bracket _ plain a-blank a-sign gone.none_there)

pub returns : goal.returns
returns c =
    let s = c.args in
    let plain : plain? s.bracket ≡ true = sym c.is_plain.ensures ∙ c.if-not-is_plain.false in
    let a-blank = met blank s.at s.text.now c.expect.ensures c.in_ok-expect.was in
    let a-sign : next_between (drop (s.at + 1) s.text.now) ≡ some c.in-Some.sign = found_sign _ (sym c.sign_at.ensures ∙ c.in-Some.is) in
    let second = met blank (s.at + 2) s.text.now c.expect-2.ensures c.in_ok-expect-2.was in
    sign-stands s.text.now s.at s.bracket _ plain a-blank a-sign second
