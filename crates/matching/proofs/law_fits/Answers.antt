-- A law is tried: its left side is matched, then its condition is asked.
use Rattle.matching.proofs.Matching.{missed_of, found_of}
use Rattle.matching.proofs.Rewriting.{tried_held, tried_unheld, tried_missed, reached}
use Rattle.matching.proofs.law_fits.Goals as goal

pub returns-in_err-letters : goal.returns-in_err-letters
returns-in_err-letters c =
    let a = c.args in
    let h = c.requires.le_law in
    rw c.from_residual.ensures (tried_missed a.law h.0 h.1 a.tables.now c.requires.ready (missed_of c.match_left.ensures c.in_err-letters.was))

pub holds-requires : goal.holds-requires
holds-requires c =
    let a = c.args in
    let h = c.requires.le_law in
    let l = c.in_ok-letters.letters in
    reached a.law h.0 h.1 a.tables.now c.requires.ready l (found_of l c.match_left.ensures c.in_ok-letters.was)

pub returns-then-holds : goal.returns-then-holds
returns-then-holds c =
    let a = c.args in
    let h = c.requires.le_law in
    let l = c.in_ok-letters.letters in
    tried_held a.law h.0 h.1 a.tables.now c.requires.ready l (found_of l c.match_left.ensures c.in_ok-letters.was) c.if-holds.ensures

pub returns-else-holds : goal.returns-else-holds
returns-else-holds c =
    let a = c.args in
    let h = c.requires.le_law in
    let l = c.in_ok-letters.letters in
    tried_unheld a.law h.0 h.1 a.tables.now c.requires.ready l (found_of l c.match_left.ensures c.in_ok-letters.was) c.if-holds.ensures
