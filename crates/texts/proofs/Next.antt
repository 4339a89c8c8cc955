-- What stands at a place of a text, by the text that is left there.
use Rattle.std.specs.Prelude.{⊤, Result, Ok, Err, Some, None}
use Prim.Native.Nat.{ℕ, suc, ◌+◌, ◌-◌, ◌≤◌, ◌<◌}
use native.Mathlib.Omega.{arith}
use mathlib.Core.Path.{◌≡◌, refl, sym, ◌∙◌, subst}
use mathlib.Core.Bool.{Bool, true, false, cond, ◌&&◌}
use mathlib.Core.List.{List, ◌∷◌}
use mathlib.Core.Option.{Option, none, some, some-injective}
use lib.ListN.{length, get_or, drop, drop_of_length-le}
use lib.Seq.{drop-cons}
use lib.Dec.{eqb, leb, ltb}
use borrow.Author.Tests.{eqb-true, le-leb, lt-leb, ltb-true, ltb-false, leb-true}
use Rattle.plans.specs.declared.Binary.{Binary}
use Rattle.grammar.specs.Character.{nought}
use Rattle.grammar.specs.States.{numeral, between_of}
use Rattle.texts.specs.declared.units.Fault.{Fault}
use Rattle.texts.specs.Readers.{next_is, next_numeral, next_between, numeral_found, sign_found, no_text, expected}

module _ (text : List ℕ) (q : ℕ) where
  pub next-there : (c : ℕ) → q < length text → eqb (get_or text q 0) c ≡ next_is c (drop q text)
  next-there c h = rw (drop-cons text q 0 h)

  pub next_past : (c : ℕ) → length text ≤ q → false ≡ next_is c (drop q text)
  next_past c h = rw (drop_of_length-le text {i = q} h)

  pub numeral-there : (m : ℕ) → q < length text → numeral m (get_or text q 0) ≡ next_numeral m (drop q text)
  numeral-there m h = rw (drop-cons text q 0 h)

  pub numeral-past : (m : ℕ) → length text ≤ q → none ≡ next_numeral m (drop q text)
  numeral-past m h = rw (drop_of_length-le text {i = q} h)

  pub between_there : q < length text → between_of (get_or text q 0) ≡ next_between (drop q text)
  between_there h = rw (drop-cons text q 0 h)

  pub between_past : length text ≤ q → none ≡ next_between (drop q text)
  between_past h = rw (drop_of_length-le text {i = q} h)

-- a character as a digit up to m
pub numeral_value : (m c : ℕ) → nought ≤ c → c ≤ nought + m → Some (c - nought) ≡ numeral_found (numeral m c)
numeral_value m c h l = rw (le-leb nought c h, le-leb c (nought + m) l)

pub numeral_high : (m c : ℕ) → nought + m < c → None ≡ numeral_found (numeral m c)
numeral_high m c h = rw (lt-leb c (nought + m) h) (either (leb nought c))
  where
    either : (b : Bool) → None ≡ numeral_found (cond (b && false) (some (c - nought)) none)
    either true = refl
    either false = refl

pub numeral_low : (m c : ℕ) → c < nought → None ≡ numeral_found (numeral m c)
numeral_low m c h = rw (lt-leb nought c h)

-- what is found, taken back
pub found_value : {d : ℕ} (m : Option ℕ) → numeral_found m ≡ Some d → m ≡ some d
found_value none e = let z : ◌≡◌ {A = ℕ} 0 1 = cc in absurd (omega arith)
found_value (some a) e = cc

pub found_none : (m : Option ℕ) → numeral_found m ≡ None → m ≡ none
found_none none e = refl
found_none (some a) e = let z : ◌≡◌ {A = ℕ} 0 1 = cc in absurd (omega arith)

pub found_sign : {o : Binary} (m : Option Binary) → sign_found m ≡ Some o → m ≡ some o
found_sign none e = let z : ◌≡◌ {A = ℕ} 0 1 = cc in absurd (omega arith)
found_sign (some a) e = cc

pub found_no_sign : (m : Option Binary) → sign_found m ≡ None → m ≡ none
found_no_sign none e = refl
found_no_sign (some a) e = let z : ◌≡◌ {A = ℕ} 0 1 = cc in absurd (omega arith)

abbrev told_at : ℕ → Bool → Result ⊤ Fault
told_at q b = cond b (Ok tt) (Err (no_text q))

-- a character that was demanded stands there, or not
pub met : (c q : ℕ) (text : List ℕ) {r : Result ⊤ Fault} {u : ⊤} → r ≡ expected c q text → r ≡ Ok u → next_is c (drop q text) ≡ true
met c q text {r} {u} e f = tested (next_is c (drop q text)) refl (sym f ∙ e)
  where
    tested : (b : Bool) → next_is c (drop q text) ≡ b → Ok u ≡ told_at q b → next_is c (drop q text) ≡ true
    tested true h i = h
    tested false h i = let z : ◌≡◌ {A = ℕ} 0 1 = cc in absurd (omega arith)

pub record Missing (c q : ℕ) (text : List ℕ) (e : Fault) : Type 0 where
  pub none_there : next_is c (drop q text) ≡ false
  pub fault : e ≡ no_text q

pub missing : (c q : ℕ) (text : List ℕ) {r : Result ⊤ Fault} {e : Fault} → r ≡ expected c q text → r ≡ Err e → Missing c q text e
missing c q text {r} {e} f g = tested (next_is c (drop q text)) refl (sym g ∙ f)
  where
    tested : (b : Bool) → next_is c (drop q text) ≡ b → Err e ≡ told_at q b → Missing c q text e
    tested true h i = let z : ◌≡◌ {A = ℕ} 0 1 = cc in absurd (omega arith)
    tested false h i = record { none_there = h; fault = cc }

-- a character that stands at a place: what is left there, and behind it
pub record Stands (text : List ℕ) (q c : ℕ) : Type 0 where
  pub left : drop q text ≡ c ∷ drop (suc q) text
  pub inside : suc q ≤ length text

stands : (text : List ℕ) (q : ℕ) → q < length text → Stands text q (get_or text q 0)
stands text q h = record { left = drop-cons text q 0 h; inside = h }

pub is_there : (text : List ℕ) (q c : ℕ) → next_is c (drop q text) ≡ true → Stands text q c
is_there text q c e = tested (ltb q (length text)) refl
  where
    tested : (b : Bool) → ltb q (length text) ≡ b → Stands text q c
    tested true f = let h = ltb-true q (length text) f in subst (λ z. Stands text q z) (eqb-true _ c (next-there text q c h ∙ e)) (stands text q h)
    tested false f = let z : false ≡ true = next_past text q c (ltb-false q (length text) f) ∙ e in let y : ◌≡◌ {A = ℕ} 0 1 = cc in absurd (omega arith)

pub numeral_is_there : (text : List ℕ) (q m d : ℕ) → next_numeral m (drop q text) ≡ some d → (c : ℕ) × Stands text q c × (numeral m c ≡ some d)
numeral_is_there text q m d e = tested (ltb q (length text)) refl
  where
    tested : (b : Bool) → ltb q (length text) ≡ b → (c : ℕ) × Stands text q c × (numeral m c ≡ some d)
    tested true f = let h = ltb-true q (length text) f in (get_or text q 0, stands text q h, numeral-there text q m h ∙ e)
    tested false f = let z : none ≡ some d = numeral-past text q m (ltb-false q (length text) f) ∙ e in let y : ◌≡◌ {A = ℕ} 0 1 = cc in absurd (omega arith)

pub between_is_there : (text : List ℕ) (q : ℕ) (o : Binary) → next_between (drop q text) ≡ some o → (c : ℕ) × Stands text q c × (between_of c ≡ some o)
between_is_there text q o e = tested (ltb q (length text)) refl
  where
    tested : (b : Bool) → ltb q (length text) ≡ b → (c : ℕ) × Stands text q c × (between_of c ≡ some o)
    tested true f = let h = ltb-true q (length text) f in (get_or text q 0, stands text q h, between_there text q h ∙ e)
    tested false f = let z : none ≡ some o = between_past text q (ltb-false q (length text) f) ∙ e in let y : ◌≡◌ {A = ℕ} 0 1 = cc in absurd (omega arith)

pub numeral_small : (text : List ℕ) (q m d : ℕ) → next_numeral m (drop q text) ≡ some d → d ≤ m
numeral_small text q m d e = let i = numeral_is_there text q m d e in tested i.0 (leb nought i.0) (leb i.0 (nought + m)) refl refl i.2
  where
    tested : (c : ℕ) (a b : Bool) → leb nought c ≡ a → leb c (nought + m) ≡ b → cond (a && b) (some (c - nought)) none ≡ some d → d ≤ m
    tested c true true f g e =
        let h = leb-true c (nought + m) g in
        let z : c - nought ≡ d = some-injective _ _ e in
        omega arith
    tested c true false f g e = let y : ◌≡◌ {A = ℕ} 0 1 = cc in absurd (omega arith)
    tested c false b f g e = let y : ◌≡◌ {A = ℕ} 0 1 = cc in absurd (omega arith)
