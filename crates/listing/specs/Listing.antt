-- What the program prints for a station file. (01, "Orders, station files, program"; request 103.)
use Rattle.std.specs.Prelude.{ℕ, List, [], ◌∷◌, ◌++◌, length}
use Rattle.std.proofs.Math.Option.{Option, none, some}
use Rattle.refusals.specs.declared.Refusal.{Refusal}
use Rattle.refusals.specs.Refusal.{printed}
use Rattle.tables.specs.Tables.{Tables, actions}
use Rattle.plans.specs.declared.Counts.{Counts}
use Rattle.plans.specs.Orders.{counts_of}
use Rattle.stations.specs.File.{file_refusal, tables_held, plan_held}
use Rattle.rewritings.specs.Moves.{Move}
use Rattle.rewritings.specs.Runs.{Run, run_of}
use Rattle.unfolding.specs.Unfolding.{unfold_refusal}
use Rattle.listing.specs.Text.{labelled, line_end, space, ascii}

-- "It prints `end E steps S size Z orders O`", and "The printed first line ends `orders O stuck K`" (request 103)
unfoldable pub first_line : ℕ → ℕ → ℕ → Counts → List ℕ
first_line e s z c =
    labelled (ascii "end ") e
    ++ (labelled (ascii " steps ") s
    ++ (labelled (ascii " size ") z
    ++ (labelled (ascii " orders ") c.orders
    ++ (labelled (ascii " stuck ") c.stuck
    ++ line_end))))

-- "a line of the words reached", with one space between two words
unfoldable pub further_words : List ℕ → List ℕ
further_words [] = []
further_words (w ∷ ws) = labelled space w ++ further_words ws

unfoldable pub words_line : List ℕ → List ℕ
words_line [] = line_end
words_line (w ∷ ws) = labelled [] w ++ (further_words ws ++ line_end)

-- "then a line `law place` for each step"
unfoldable pub step_line : ℕ → ℕ → List ℕ
step_line law place = labelled [] law ++ (labelled space place ++ line_end)

unfoldable pub step_lines : List Move → List ℕ
step_lines [] = []
step_lines (m ∷ ms) = step_line m.law m.place ++ step_lines ms

-- under n actions, of an unfolding that ended with number e after s steps, with the plan reached and the steps made
unfoldable pub ending : ℕ → ℕ → ℕ → List ℕ → List Move → List ℕ
ending n e s plan moves = first_line e s (length plan) (counts_of n plan) ++ (words_line plan ++ step_lines moves)

-- "or only `refused N P`, a triple printed as 1,024a + 32b + c"
unfoldable pub refused_line : Refusal → List ℕ
refused_line r = labelled (ascii "refused ") r.number ++ (labelled space (printed r.place) ++ line_end)

-- "only" that line where there is a refusal, and else this text
abbrev pub unless_refused : Option Refusal → List ℕ → List ℕ
unless_refused (some r) text = refused_line r
unless_refused none text = text

-- of a run of the unfolding
abbrev pub run_listing : Tables → Run → List ℕ
run_listing t r = ending (actions t) r.number r.steps r.plan r.moves

-- "allowance 5,000, … areas A and B 8,192 each, list 15,000"
unfoldable pub plan_listing : Tables → List ℕ → List ℕ
plan_listing t plan = unless_refused (unfold_refusal t plan 8192) (run_listing t (run_of t plan 5000 15000 8192))

-- "The program unfolds a station file from standard input: … plan area … 8,192": everything that is printed for the file f
unfoldable pub listing : List ℕ → List ℕ
listing f = unless_refused (file_refusal f 2305 8192) (plan_listing (tables_held f) (plan_held f))
