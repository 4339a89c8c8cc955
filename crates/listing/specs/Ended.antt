-- Nobody need believe this: contracts of functions cite it. How an unfolding ended, by the numbers that are printed of it.
use Rattle.std.specs.Prelude.{ℕ}
use Rattle.unfolding.specs.declared.Unfolded.{Unfolded}
use Rattle.unfolding.specs.declared.Unfolded.TheVariants.{Finished, Stopped}

-- an unfolding that ended with a number, 0 where it finished, after so many steps, at a plan of so many words
pub data Ended : Unfolded → ℕ → ℕ → ℕ → Type 0 where
  finished : {steps size : ℕ} → Ended (Finished steps size) 0 steps size
  stopped : {number steps size : ℕ} → Ended (Stopped number steps size) number steps size
