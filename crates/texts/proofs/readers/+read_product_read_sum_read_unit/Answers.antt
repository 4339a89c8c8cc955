-- The three readers meet their contracts: at each end of them, the rules of `Reaching` say what was read or what stopped it.
use Rattle.std.proofs.Common.{◌≡◌, Err, rules, sym, ◌∙◌}
use Rattle.grammar.specs.Character.{closing}
use Rattle.texts.specs.Readers.{Opens, Signs}
use Rattle.texts.proofs.Next.{met, missing}
use Rattle.texts.proofs.Reaching.{units_go_on, units_stop, products_go_on, products_stop, first_entered, second_entered, bracket_reached, bracket-stopped, bracket_wrong, second_wrong}
use Rattle.texts.proofs.readers.+read_product_read_sum_read_unit.Goals as goal

pub read_product-loop-here-preserved : goal.read_product-loop-here-preserved
read_product-loop-here-preserved t c =
    let s = c.args in
    units_go_on s.n s.depth s.text.now s.from.at c.requires.1 c.loop-here.invariant (sym c.next_is.ensures ∙ c.loop-here-test.true) c.in_ok-here-2.ensures c.store.ensures

pub read_product-returns-in_err-here-2 : goal.read_product-returns-in_err-here-2
read_product-returns-in_err-here-2 t c =
    let s = c.args in
    let e : c.from_residual-in_err-here-2.result ≡ Err c.in_err-here-2.field-0.0 = search rules in
    rw e (units_stop s.n s.depth s.text.now s.from.at c.requires.1 c.loop-here.invariant (sym c.next_is.ensures ∙ c.loop-here-test.true) c.in_err-here-2.ensures)

pub read_sum-loop-here-preserved : goal.read_sum-loop-here-preserved
read_sum-loop-here-preserved t c =
    let s = c.args in
    products_go_on s.n s.depth s.text.now s.from.at c.requires.1 c.loop-here.invariant (sym c.next_is.ensures ∙ c.loop-here-test.true) c.in_ok-here-2.ensures c.store.ensures

pub read_sum-returns-in_err-here-2 : goal.read_sum-returns-in_err-here-2
read_sum-returns-in_err-here-2 t c =
    let s = c.args in
    let e : c.from_residual-in_err-here-2.result ≡ Err c.in_err-here-2.field-0.0 = search rules in
    rw e (products_stop s.n s.depth s.text.now s.from.at c.requires.1 c.loop-here.invariant (sym c.next_is.ensures ∙ c.loop-here-test.true) c.in_err-here-2.ensures)

pub read_unit-returns-in_err-after_sum-in-Opened : goal.read_unit-returns-in_err-after_sum-in-Opened
read_unit-returns-in_err-after_sum-in-Opened t c =
    let s = c.args in
    let opens : Opens s.n s.depth s.text.now s.from.at c.in-Opened.bracket c.in-Opened.next = rw c.in-Opened.is at c.in_ok-action.ensures in
    let e : c.from_residual-in_err-after_sum-in-Opened.result ≡ Err c.in_err-after_sum-in-Opened.field-0.0 = search rules in
    let wrong = c.in_err-after_sum-in-Opened.ensures in
    rw (e, wrong.0) (bracket_wrong s.n s.depth s.text.now s.from.at opens c.in_ok-first-in-Opened.ensures wrong.1)

pub read_unit-returns-in-Closed : goal.read_unit-returns-in-Closed
read_unit-returns-in-Closed t c =
    let s = c.args in
    let opens : Opens s.n s.depth s.text.now s.from.at c.in-Opened.bracket c.in-Opened.next = rw c.in-Opened.is at c.in_ok-action.ensures in
    let first = first_entered s.n s.depth s.text.now s.from.at s.out.now s.from.words opens in
    let is_closed = rw c.in-Closed.is at c.in_ok-after_sum-in-Opened.ensures in
    bracket_reached s.n s.depth s.text.now s.from.at c.requires.1 first c.in_ok-first-in-Opened.ensures is_closed c.close.ensures

pub read_unit-returns-in_err-second-in-Sign : goal.read_unit-returns-in_err-second-in-Sign
read_unit-returns-in_err-second-in-Sign t c =
    let s = c.args in
    let opens : Opens s.n s.depth s.text.now s.from.at c.in-Opened.bracket c.in-Opened.next = rw c.in-Opened.is at c.in_ok-action.ensures in
    let sign : Signs s.text.now c.in_ok-first-in-Opened.first.at c.in-Opened.bracket c.in-Sign.sign = rw c.in-Sign.is at c.in_ok-after_sum-in-Opened.ensures in
    let second = second_entered s.n s.depth s.text.now s.from.at opens c.in_ok-first-in-Opened.ensures sign in
    let e : c.from_residual-in_err-second-in-Sign.result ≡ Err c.in_err-second-in-Sign.field-0.0 = search rules in
    rw e (bracket-stopped s.n s.depth s.text.now s.from.at second c.in_err-second-in-Sign.ensures)

pub read_unit-returns-in_err-expect-in-Sign : goal.read_unit-returns-in_err-expect-in-Sign
read_unit-returns-in_err-expect-in-Sign t c =
    let s = c.args in
    let opens : Opens s.n s.depth s.text.now s.from.at c.in-Opened.bracket c.in-Opened.next = rw c.in-Opened.is at c.in_ok-action.ensures in
    let sign : Signs s.text.now c.in_ok-first-in-Opened.first.at c.in-Opened.bracket c.in-Sign.sign = rw c.in-Sign.is at c.in_ok-after_sum-in-Opened.ensures in
    let second = second_entered s.n s.depth s.text.now s.from.at opens c.in_ok-first-in-Opened.ensures sign in
    let gone = missing closing c.in_ok-second-in-Sign.second.at s.text.now c.expect.ensures c.in_err-expect-in-Sign.was in
    let e : c.from_residual-in_err-expect-in-Sign.result ≡ Err c.in_err-expect-in-Sign.field-0.0 = search rules in
    rw (e, gone.fault) (second_wrong s.n s.depth s.text.now s.from.at second c.in_ok-second-in-Sign.ensures gone.none_there)

pub read_unit-returns-in_ok-expect-in-Sign : goal.read_unit-returns-in_ok-expect-in-Sign
read_unit-returns-in_ok-expect-in-Sign t c =
    let s = c.args in
    let opens : Opens s.n s.depth s.text.now s.from.at c.in-Opened.bracket c.in-Opened.next = rw c.in-Opened.is at c.in_ok-action.ensures in
    let sign : Signs s.text.now c.in_ok-first-in-Opened.first.at c.in-Opened.bracket c.in-Sign.sign = rw c.in-Sign.is at c.in_ok-after_sum-in-Opened.ensures in
    let second = second_entered s.n s.depth s.text.now s.from.at opens c.in_ok-first-in-Opened.ensures sign in
    let is_closed = met closing c.in_ok-second-in-Sign.second.at s.text.now c.expect.ensures c.in_ok-expect-in-Sign.was in
    bracket_reached s.n s.depth s.text.now s.from.at c.requires.1 second c.in_ok-second-in-Sign.ensures is_closed c.close-in-Sign.ensures
