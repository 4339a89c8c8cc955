-- Nobody need believe this: contracts of functions cite it. What stands at a position of a rewriting: a step of either direction, or the end.
use Rattle.std.specs.Prelude.{ℕ, ◌+◌, List, drop, Option, Some, None}
use Rattle.rewritings.specs.declared.Moved.{Moved}
use Rattle.rewritings.specs.declared.Reader.{Reader}
use Rattle.rewritings.specs.declared.Record.{Record}
use Rattle.rewritings.specs.declared.Record.TheVariants.{Step, Back}
use Rattle.rewritings.specs.Records.{Recorded, forward, backward, First, nothing, cut_short, one_step, first_record}

-- a step read at position p, with the position after it, and where the words of a left side begin; where a record is cut short none stands
abbrev pub read_step : ℕ → Recorded → ℕ → Record
read_step p (forward m) size = Step m.law m.place (p + size)
read_step p (backward m left) size = Back m.law m.place (p + 5) (p + size)

abbrev pub read_first : ℕ → First → Option Record
read_first p nothing = None
read_first p cut_short = None
read_first p (one_step r size) = Some (read_step p r size)

-- what the rest of a rewriting begins with, from position p on
unfoldable pub record_at : List ℕ → ℕ → Option Record
unfolding first_record
record_at rewriting p = read_first p (first_record (drop p rewriting))

-- where a reader stands after what it read at position p: behind a step; and still there at the end
abbrev pub after_record : ℕ → Option Record → ℕ
after_record p (Some (Step law place next)) = next
after_record p (Some (Back law place from next)) = next
after_record p None = p

-- a reader goes on: what it reads where it stands, and the reader behind that
abbrev pub gone_on : Reader → Moved
gone_on r =
    record {
      read = record_at r.rewriting.now r.at;
      reader = record { rewriting = r.rewriting; at = after_record r.at (record_at r.rewriting.now r.at) };
    }
