-- Nobody need believe this file: what it says is carried by the theorem `redex_chosen`. The law that fits at the root of a term in a graph and what
-- its letters stand for, told by what the operands are.
use Rattle.std.specs.Prelude.{ℕ, ◌-◌, cond, get_or, eqb, ltb, Option, Some, None}
use Rattle.tables.specs.Tables.{Tables, blocked, below}
use Rattle.graph.specs.Graph.{Graph}
use Rattle.redexes.specs.declared.root.Operand.{Operand}
use Rattle.redexes.specs.declared.root.Operand.TheVariants.{Action, Sum, Product, Other}
use Rattle.redexes.specs.declared.Redex.{Redex}

-- an operand: an action; a sum or a product, with the entries under it; or a term of another sign
unfoldable pub operand_of : Graph → ℕ → Operand
operand_of g v =
    cond (ltb v 256) (Action v)
    (cond (eqb (get_or g.own v 0) 64) (Sum (get_or g.first v 0) (get_or g.second v 0))
    (cond (eqb (get_or g.own v 0) 65) (Product (get_or g.first v 0) (get_or g.second v 0)) Other))

-- a law whose letters are plans alone; actions and plans; ∂'s set, an action and plans
abbrev pub on_plans : ℕ → ℕ → ℕ → ℕ → Redex
on_plans k x y z = record { law = k; x = x; y = y; z = z; a = 0; b = 0; set = 80 }

abbrev pub on_actions : ℕ → ℕ → ℕ → ℕ → ℕ → Redex
on_actions k a b x y = record { law = k; x = x; y = y; z = 0; a = a; b = b; set = 80 }

abbrev pub on_set : ℕ → ℕ → ℕ → ℕ → ℕ → Redex
on_set k s a x y = record { law = k; x = x; y = y; z = 0; a = a; b = 0; set = s }

-- x + y, laws 7 and 8
unfoldable pub choice_redex : ℕ → ℕ → Option Redex
choice_redex a b = cond (eqb b 0) (Some (on_plans 7 a 0 0)) (cond (eqb a 0) (Some (on_plans 8 b 0 0)) None)

-- x·y, laws 5, 6 and 9
unfoldable pub sequence_redex : ℕ → Operand → Option Redex
sequence_redex b (Action a) = cond (eqb a 0) (Some (on_plans 9 b 0 0)) None
sequence_redex b (Sum x y) = Some (on_plans 5 x y b)
sequence_redex b (Product x y) = Some (on_plans 6 x y b)
sequence_redex b Other = None

-- x ⌊ y, laws 12 to 14
unfoldable pub left_merge_redex : ℕ → Operand → Option Redex
left_merge_redex b (Action a) = Some (on_actions 12 a 0 b 0)
left_merge_redex b (Sum x y) = Some (on_plans 14 x y b)
left_merge_redex b (Product a x) = cond (ltb a 256) (Some (on_actions 13 a 0 x b)) None
left_merge_redex b Other = None

-- x | y, laws 10 and 15 to 19
unfoldable pub communication_redex : ℕ → ℕ → Operand → Operand → Option Redex
communication_redex a b (Action i) (Action j) = Some (on_actions 10 i j 0 0)
communication_redex a b (Action i) (Product j y) = cond (ltb j 256) (Some (on_actions 16 i j y 0)) None
communication_redex a b (Action i) (Sum x y) = Some (on_plans 19 a x y)
communication_redex a b (Action i) Other = None
communication_redex a b (Product i x) (Action j) = cond (ltb i 256) (Some (on_actions 15 i j x 0)) None
communication_redex a b (Product i x) (Product j y) = cond (ltb i 256) (cond (ltb j 256) (Some (on_actions 17 i j x y)) None) None
communication_redex a b (Product i x) (Sum y z) = Some (on_plans 19 a y z)
communication_redex a b (Product i x) Other = None
communication_redex a b (Sum x y) (Action j) = Some (on_plans 18 x y b)
communication_redex a b (Sum x y) (Product j z) = Some (on_plans 18 x y b)
communication_redex a b (Sum x y) (Sum z u) = Some (on_plans 18 x y b)
communication_redex a b (Sum x y) Other = Some (on_plans 18 x y b)
communication_redex a b Other (Action j) = None
communication_redex a b Other (Product j y) = None
communication_redex a b Other (Sum x y) = Some (on_plans 19 a x y)
communication_redex a b Other Other = None

-- a ◁ b of two actions, laws 24 and 25
unfoldable pub unless_actions : Tables → ℕ → ℕ → Redex
unless_actions t a b = cond (below t a b) (on_actions 25 a b 0 0) (on_actions 24 a b 0 0)

-- x ◁ y, laws 24 to 29
unfoldable pub unless_redex : Tables → ℕ → ℕ → Operand → Operand → Option Redex
unless_redex t a b (Action i) (Action j) = Some (unless_actions t i j)
unless_redex t a b (Sum x y) (Action j) = Some (on_plans 29 x y b)
unless_redex t a b (Product x y) (Action j) = Some (on_plans 28 x y b)
unless_redex t a b Other (Action j) = None
unless_redex t a b p (Sum x y) = Some (on_plans 27 a x y)
unless_redex t a b p (Product x y) = Some (on_plans 26 a x y)
unless_redex t a b (Action i) Other = None
unless_redex t a b (Sum x y) Other = Some (on_plans 29 x y b)
unless_redex t a b (Product x y) Other = Some (on_plans 28 x y b)
unless_redex t a b Other Other = None

-- θ(x), laws 30 to 32
unfoldable pub priority_redex : Operand → Option Redex
priority_redex (Action a) = Some (on_actions 30 a 0 0 0)
priority_redex (Product x y) = Some (on_plans 31 x y 0)
priority_redex (Sum x y) = Some (on_plans 32 x y 0)
priority_redex Other = None

-- ∂(x), laws 20 to 23
unfoldable pub encapsulation_redex : Tables → ℕ → Operand → Option Redex
encapsulation_redex t w (Action a) = cond (blocked t (w - 80) a) (Some (on_set 21 w a 0 0)) (Some (on_set 20 w a 0 0))
encapsulation_redex t w (Sum x y) = Some (on_set 22 w 0 x y)
encapsulation_redex t w (Product x y) = Some (on_set 23 w 0 x y)
encapsulation_redex t w Other = None
