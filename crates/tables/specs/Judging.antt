-- How tables are judged: refusals 1 to 8, each just when its condition is the first to hold. (01, "Tables" and "Turned back by what was handed in".)
-- Conditions first, on entries by row and column, on an operation and on an order; then the parts of the tables, which begin at a byte; then the chain.
use Rattle.std.specs.Prelude.{ℕ, suc, ◌+◌, ◌*◌, Bool, cond, not, ◌&&◌, ◌||◌, length, eqb, leb, ltb}
use Rattle.std.proofs.Math.Option.{Option, none}
use Rattle.refusals.specs.declared.Place.TheVariants.{Nowhere, Byte, Triple}
use Rattle.refusals.specs.declared.Refusal.{Refusal}
use Rattle.refusals.specs.Refusal.{refuse, or_else}
use Rattle.tables.specs.Search.{first_from, unless_met}
use Rattle.tables.specs.Tables.{Tables, tables_length, most_actions, row_length, set_count, communication_at, priority_at, sets_at}
use Rattle.tables.specs.Tables.{entry_of, marked, actions, outside?, communication}

-- Conditions

-- "every entry in range (communication 0 to n; others 0 or 1), zero where a row or column of actions exceeds n, and action 0 in no set":
-- an entry v of a part whose entries are at most m, where it must be zero if it stands outside
unfoldable pub entry_right : ℕ → Bool → ℕ → Bool
entry_right m outside v = cond outside (eqb v 0) (leb v m)

-- a byte v in row a and column b of a part whose rows and columns are actions, with n actions
unfoldable pub byte_right : ℕ → ℕ → ℕ → ℕ → ℕ → Bool
byte_right n m a b v = entry_right m (ltb n a || ltb n b) v

-- a byte v in column a of a set
abbrev pub set_right : ℕ → ℕ → ℕ → Bool
set_right n a v = entry_right 1 (outside? n a) v

-- "row and column 0 of communication all zero (C3)"
unfoldable pub null_right : (ℕ → ℕ → ℕ) → ℕ → ℕ → Bool
null_right comm a b = not (eqb a 0 || eqb b 0) || eqb (comm a b) 0

-- "a|b = b|a (C1)"
unfoldable pub swap_right : (ℕ → ℕ → ℕ) → ℕ → ℕ → Bool
swap_right comm a b = eqb (comm a b) (comm b a)

-- "(a|b)|c = a|(b|c) (C2)"
unfoldable pub group_right : (ℕ → ℕ → ℕ) → ℕ → ℕ → ℕ → Bool
group_right comm a b c = eqb (comm (comm a b) c) (comm a (comm b c))

-- "0 < a for each a from 1 to n"
unfoldable pub least_right : (ℕ → ℕ → Bool) → ℕ → Bool
least_right lt a = lt 0 a

-- "< irreflexive, asymmetric, transitive"; a triple fails by "a<a; or a<b and b<a; or a<b, b<c, not a<c"
unfoldable pub order_right : (ℕ → ℕ → Bool) → ℕ → ℕ → ℕ → Bool
order_right lt a b c = not (lt a a) && (not (lt a b && lt b a) && not (lt a b && (lt b c && not (lt a c))))

-- refusal k with the first byte, row by row, of a part of so many rows that begins at a byte, where row and column fail a test
abbrev pub first_entry : ℕ → (ℕ → ℕ → Bool) → ℕ → ℕ → Option Refusal
first_entry k right start rows =
    first_from
    (λ a. first_from (λ b. unless_met (right a b) (record { number = k; place = Byte (start + (row_length * a + b)) })) 0 row_length) 0 rows

-- refusal k with the first triple over 0 to n, "with a slowest", that fails a test
abbrev pub first_triple : ℕ → (ℕ → ℕ → ℕ → Bool) → ℕ → Option Refusal
first_triple k right n =
    first_from
    (λ a. first_from (λ b. first_from (λ c. unless_met (right a b c) (record { number = k; place = Triple a b c })) 0 (suc n)) 0 (suc n)) 0 (suc n)

-- Parts, with n actions

-- "2 n wrong"
abbrev pub count_refusal : ℕ → Option Refusal
count_refusal n = cond (leb 1 n && leb n most_actions) none (refuse 2 Nowhere)

-- "3 entry wrong (first byte)", in communication, in a priority part and in sets
abbrev pub communication_entries : Tables → ℕ → Option Refusal
communication_entries t n = first_entry 3 (λ a b. byte_right n n a b (communication t a b)) communication_at row_length

abbrev pub priority_entries : Tables → ℕ → ℕ → Option Refusal
priority_entries t start n = first_entry 3 (λ a b. byte_right n 1 a b (entry_of t start a b)) start row_length

abbrev pub set_entries : Tables → ℕ → ℕ → Option Refusal
set_entries t start n = first_entry 3 (λ h a. set_right n a (entry_of t start h a)) start set_count

-- the laws of communication
abbrev pub communication_refusal : Tables → ℕ → Option Refusal
communication_refusal t n =
    -- "4 C3, 5 C1 (first byte at which it fails)"
    or_else (first_entry 4 (null_right (communication t)) communication_at row_length)
    (or_else (first_entry 5 (swap_right (communication t)) communication_at row_length)
    -- "6 the first triple in counting order at which C2 fails"
    (first_triple 6 (group_right (communication t)) n))

-- "7 some 0<a missing (least such byte)"
abbrev pub first_not_above : Tables → ℕ → ℕ → Option Refusal
first_not_above t start n = first_from (λ a. unless_met (least_right (marked t start) a) (record { number = 7; place = Byte (start + a) })) 1 n

-- the order of a priority part: refusal 7, and "8 not a strict partial order (first failing triple a, b, c …)"
abbrev pub order_refusal : Tables → ℕ → ℕ → Option Refusal
order_refusal t start n = or_else (first_not_above t start n) (first_triple 8 (order_right (marked t start)) n)

-- The chain

-- refusal 3 of communication and of the sets, which begin at a byte, with that of what stands between the two
abbrev pub shared_entries : Tables → ℕ → ℕ → Option Refusal → Option Refusal
shared_entries t sets n between = or_else (communication_entries t n) (or_else between (set_entries t sets n))

-- the shared part, n, communication and sets: refusals 2 to 6
abbrev pub shared_refusal : Tables → ℕ → Option Refusal → Option Refusal
shared_refusal t sets between =
    or_else (count_refusal (actions t)) (or_else (shared_entries t sets (actions t) between) (communication_refusal t (actions t)))

-- refusals 2 to 8, of tables of the right length; a further condition has its place between 6 and 7
abbrev pub content_with : Option Refusal → Tables → Option Refusal
content_with further t =
    or_else (shared_refusal t sets_at (priority_entries t priority_at (actions t))) (or_else further (order_refusal t priority_at (actions t)))

-- 01 has none
unfoldable pub content_refusal : Tables → Option Refusal
content_refusal t = content_with none t

-- "1 tables not 2,305 bytes"
unfoldable pub table_refusal : Tables → Option Refusal
unfolding content_refusal
table_refusal t = cond (eqb (length t) tables_length) (content_refusal t) (refuse 1 Nowhere)
