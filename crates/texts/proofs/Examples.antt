-- 63 comes after 61 and 62, and goes by the area, by computation.
use Prim.Native.Nat.{ℕ}
use mathlib.Core.Path.{◌≡◌, refl}
use mathlib.Core.List.{List, [], ◌∷◌}
use mathlib.Core.Option.{none}
use Rattle.refusals.specs.declared.Place.TheVariants.{Nowhere, Byte}
use Rattle.refusals.specs.Refusal.{refuse}
use Rattle.grammar.specs.Character.{plus, dot}
use Rattle.grammar.specs.States.{step, finish}
use Rattle.grammar.specs.Reading.{read_from, read_text}
use Rattle.texts.specs.Text.{found_refusal}

-- 1.2, and the same with `+` and a dot behind, which cannot go on
abbrev product : List ℕ
product = 49 ∷ dot ∷ 50 ∷ []

abbrev faulty : List ℕ
faulty = 49 ∷ dot ∷ 50 ∷ plus ∷ dot ∷ []

fits : found_refusal 3 (read_text 4 product) ≡ none
unfolding read_text read_from step finish
fits = refl

too_long : found_refusal 2 (read_text 4 product) ≡ refuse 63 Nowhere
unfolding read_text read_from step finish
too_long = refl

fault-first : found_refusal 2 (read_text 4 faulty) ≡ refuse 61 (Byte 4)
unfolding read_text read_from step finish
fault-first = refl
