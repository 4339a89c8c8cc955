-- Entries are written from the last word to the first. The invariant: with the words of the entries left written too, the area is as it shall be.
-- The measure is the place of the word written last.
use Rattle.graph.specs.Graph.{graph}
use Rattle.graph.proofs.Writing.{Writing}
use Rattle.graph.proofs.write_back.Given as goal

abbrev pub invariant-loop-h : goal.invariant-loop-h
invariant-loop-h l = Writing (graph l.own l.first l.second) l.initial.stack l.height l.initial.dst l.end l.stack l.dst l.h l.e

abbrev pub decreases-loop-h : goal.decreases-loop-h
decreases-loop-h l = l.e
