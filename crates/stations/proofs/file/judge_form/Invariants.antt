-- `stations::file::judge_form` meets its contract. The invariant: what is found from block i on is what is found at all.
use Prim.Native.Nat.{◌≤◌}
use mathlib.Core.Path.{◌≡◌}
use Rattle.stations.specs.File.{blocks, form_refusal}
use Rattle.stations.proofs.Files.{found}
use Rattle.stations.proofs.file.judge_form.Given as goal

abbrev pub invariant-loop-i : goal.invariant-loop-i
invariant-loop-i l = (l.i ≤ blocks l.file) × (found l.file l.i ≡ form_refusal l.file)
