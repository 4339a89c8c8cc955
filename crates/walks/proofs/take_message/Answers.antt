-- `walks::take_message` meets its contract: what the pass found is put into the marks where it led anywhere, and else nothing is written.
use native.Mathlib.Omega.{arith}
use Prim.Native.Nat.{ℕ, ◌≤◌}
use mathlib.Core.Bool.{Bool, true, false, ◌||◌}
use mathlib.Core.List.{List}
use mathlib.Core.Path.{◌≡◌, refl, sym, ap₂, ◌∙◌}
use lib.ListN.{length, replicate, length-replicate}
use lib.Seq.{length-take-le}
use Rattle.tables.specs.Tables.{outside?}
use Rattle.walks.specs.Outcome.{accepted_outcome}
use Rattle.walks.specs.Pass.{passed, progress_after, some_mark, take_message}
use Rattle.walks.specs.Progress.{Progress}
use Rattle.walks.specs.Turns.{Found, message_outcome}
use Rattle.walks.proofs.Turning.{short}
use Rattle.walks.proofs.take_message.Goals as goal

-- a message that is taken, by what the pass found: the code holds the answer r of the test whether it led anywhere
taken : {n : ℕ} {plan : List ℕ} {m : ℕ} (p : Progress) {marks next : List ℕ} {finishes r : Bool} → outside? n m ≡ false → Found n plan m p.marks next finishes
    → r ≡ finishes || some_mark next → r ≡ true → marks ≡ next
    → accepted_outcome (record { marks = marks; finish = finishes }) ≡ message_outcome (take_message n plan m p) p
unfolding take_message progress_after
taken {n} {plan} {m} p o f e d w =
    let led : (passed n plan m p.marks).ending || some_mark (passed n plan m p.marks).next ≡ true = sym (e ∙ ap₂ (λ b l. b || some_mark l) f.ending_found f.next_found) ∙ d in
    ap₂ (λ l b. accepted_outcome (record { marks = l; finish = b })) (w ∙ f.next_found) f.ending_found ∙ rw (o, led) refl

pub slice_bounds-next-end : goal.slice_bounds-next-end
slice_bounds-next-end c =
    let room : length c.args.plan.now ≤ length (replicate {A = ℕ} 16384 0) = omega (arith, short _ _ c.requires.0.few c.requires.0.accepted, length-replicate {A = ℕ} 16384 0) in
    sym (length-take-le (length c.args.plan.now) (replicate 16384 0) room)

pub find_next-finishes-requires : goal.find_next-finishes-requires
find_next-finishes-requires c =
    let room : length c.args.plan.now ≤ length (replicate {A = ℕ} 16384 0) = omega (arith, short _ _ c.requires.0.few c.requires.0.accepted, length-replicate {A = ℕ} 16384 0) in
    (c.requires.0, length-take-le (length c.args.plan.now) (replicate 16384 0) room)

pub returns-then-leads_on : goal.returns-then-leads_on
returns-then-leads_on c =
    taken (record { marks = c.args.marks.now; finish = c.args.finished.now }) c.requires.1 c.find_next-finishes.ensures c.leads_on.ensures c.if-leads_on.true c.copy_from_slice.ensures.after
