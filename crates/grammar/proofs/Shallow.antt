-- No text of a plan goes less deep than its typed one: where 200 levels are enough for a plan, they are enough for that.
use Prim.Native.Nat.{ℕ, zero, suc, ◌+◌, ◌-◌, ◌/◌, ◌%◌, ◌≤◌}
use native.Mathlib.Omega.{arith}
use mathlib.Core.Path.{◌≡◌, refl, sym, ap, ◌∙◌, subst}
use mathlib.Core.Bool.{Bool, true, false, cond}
use mathlib.Core.List.{List, [], ◌∷◌, ◌++◌}
use lib.ListN.{take}
use lib.Seq.{take-nil}
use lib.Dec.{eqb, ltb}
use borrow.Author.Tests.{ne_eqb}
use Rattle.plans.specs.declared.Binary.{Binary}
use Rattle.plans.specs.declared.Binary.TheVariants.{Choice, Sequence, Merge, LeftMerge, CommunicationMerge, Unless}
use Rattle.plans.specs.declared.Unary.TheVariants.{Priority, Encapsulation}
use Rattle.plans.specs.Term.{Term, act, un, bin, words, Over}
use Rattle.grammar.specs.Character.{plus, dot, opening, closing, tee, aitch, nought, blank}
use Rattle.grammar.specs.Grammar.{Decimal, digit, more, Between, merge, left_merge, communication, unless, SumOf, level, moved, Within}
use Rattle.grammar.specs.Typed.{number, bracketed, as_product, as_unit, paired, typed}
use Rattle.grammar.specs.Reading.{Plan, read_text}
use Rattle.grammar.proofs.Induction.{Ways, every_sum}
use Rattle.grammar.proofs.Typing.{typed_read}

-- nowhere in s are more than m open, where h are before it; and as many are open behind it as before
abbrev Low : ℕ → ℕ → List ℕ → Type 0
Low h m s = (p : ℕ) → level h (take p s) ≤ m

abbrev Balanced : List ℕ → Type 0
Balanced s = (h : ℕ) → level h s ≡ h

moved_mono : (a b c : ℕ) → a ≤ b → moved a c ≤ moved b c
moved_mono a b c l = tested (eqb c opening) (eqb c closing)
  where
    tested : (x y : Bool) → cond x (suc a) (cond y (a - 1) a) ≤ cond x (suc b) (cond y (b - 1) b)
    tested true y = omega arith
    tested false true = omega arith
    tested false false = omega arith

level_mono : (a b : ℕ) (s : List ℕ) → a ≤ b → level a s ≤ level b s
unfolding level
level_mono a b [] l = l
level_mono a b (c ∷ s) l = level_mono (moved a c) (moved b c) s (moved_mono a b c l)

level-append : (h : ℕ) (s t : List ℕ) → level h (s ++ t) ≡ level (level h s) t
unfolding level
level-append h [] t = refl
level-append h (c ∷ s) t = level-append (moved h c) s t

low_less : (h m : ℕ) (s : List ℕ) → Low (suc h) m s → Low h m s
low_less h m s f p = let l = f p in omega (arith, level_mono h (suc h) (take p s) (omega arith))

low_nil : (h m : ℕ) → h ≤ m → Low h m []
unfolding level
low_nil h m l p = rw (take-nil {A = ℕ} p) l

low_cons : (h m c : ℕ) (s : List ℕ) → h ≤ m → Low (moved h c) m s → Low h m (c ∷ s)
unfolding level
low_cons h m c s l f zero = l
low_cons h m c s l f (suc p) = f p

low_rest : (h m c : ℕ) (s : List ℕ) → Low h m (c ∷ s) → Low (moved h c) m s
unfolding level
low_rest h m c s f p = f (suc p)

low_here : (h m : ℕ) (s : List ℕ) → Low h m s → h ≤ m
unfolding level
low_here h m s f = f 0

low_left : (h m : ℕ) (s t : List ℕ) → Low h m (s ++ t) → Low h m s
low_left h m [] t f = low_nil h m (low_here h m t f)
low_left h m (c ∷ s) t f = low_cons h m c s (low_here h m (c ∷ (s ++ t)) f) (low_left (moved h c) m s t (low_rest h m c (s ++ t) f))

low_right : (h m : ℕ) (s t : List ℕ) → Low h m (s ++ t) → Low (level h s) m t
unfolding level
low_right h m [] t f = f
low_right h m (c ∷ s) t f = low_right (moved h c) m s t (low_rest h m c (s ++ t) f)

low_both : (h m : ℕ) (s t : List ℕ) → Low h m s → Low (level h s) m t → Low h m (s ++ t)
unfolding level
low_both h m [] t f g = g
low_both h m (c ∷ s) t f g = low_cons h m c (s ++ t) (low_here h m (c ∷ s) f) (low_both (moved h c) m s t (low_rest h m c s f) g)

-- two balanced parts
part_right : (h m : ℕ) (s t : List ℕ) → Balanced s → Low h m (s ++ t) → Low h m t
part_right h m s t b f = subst (λ z. Low z m t) (b h) (low_right h m s t f)

part_both : (h m : ℕ) (s t : List ℕ) → Balanced s → Low h m s → Low h m t → Low h m (s ++ t)
part_both h m s t b f g = low_both h m s t f (subst (λ z. Low z m t) (sym (b h)) g)

balanced_both : (s t : List ℕ) → Balanced s → Balanced t → Balanced (s ++ t)
balanced_both s t b c h = level-append h s t ∙ (ap (λ z. level z t) (b h) ∙ c h)

-- digits do not move
digit_stays : (d h : ℕ) → moved h (nought + d) ≡ h
digit_stays d h = rw (ne_eqb (nought + d) opening (λ e. omega arith), ne_eqb (nought + d) closing (λ e. omega arith))

digit_balanced : (d : ℕ) → Balanced ((nought + d) ∷ [])
unfolding level
digit_balanced d h = digit_stays d h

decimal_balanced : {s : List ℕ} {a : ℕ} → Decimal s a → Balanced s
decimal_balanced (digit {d = d} l) h = digit_balanced d h
decimal_balanced (more {s = s} {d = d} x f l) h = balanced_both s ((nought + d) ∷ []) (λ i. decimal_balanced x i) (digit_balanced d) h

digits_low : (h m d : ℕ) (s : List ℕ) → h ≤ m → Low h m s → Low h m ((nought + d) ∷ s)
digits_low h m d s l f = low_cons h m (nought + d) s l (rw (digit_stays d h) f)

number_low : (h m a : ℕ) → h ≤ m → Low h m (number a)
number_low h m a l = tested (ltb a 10)
  where
    tested : (b : Bool) → Low h m (cond b ((nought + a) ∷ []) ((nought + a / 10) ∷ (nought + a % 10) ∷ []))
    tested true = digits_low h m a [] l (low_nil h m l)
    tested false = digits_low h m (a / 10) ((nought + a % 10) ∷ []) l (digits_low h m (a % 10) [] l (low_nil h m l))

number_balanced : (a : ℕ) → Balanced (number a)
number_balanced a = tested (ltb a 10)
  where
    tested : (b : Bool) → Balanced (cond b ((nought + a) ∷ []) ((nought + a / 10) ∷ (nought + a % 10) ∷ []))
    tested true = digit_balanced a
    tested false = balanced_both ((nought + a / 10) ∷ []) ((nought + a % 10) ∷ []) (digit_balanced (a / 10)) (digit_balanced (a % 10))

-- brackets
bracket_balanced : (s : List ℕ) → Balanced s → Balanced (bracketed s)
unfolding level
bracket_balanced s b h = level-append (suc h) s (closing ∷ []) ∙ (ap (λ z. level z (closing ∷ [])) (b (suc h)) ∙ omega arith)

bracket-inside : (h m : ℕ) (s : List ℕ) → Low h m (bracketed s) → Low (suc h) m s
bracket-inside h m s f = low_left (suc h) m s (closing ∷ []) (low_rest h m opening (s ++ (closing ∷ [])) f)

closing_low : (h m : ℕ) → suc h ≤ m → Low (suc h) m (closing ∷ [])
closing_low h m l = low_cons (suc h) m closing [] l (low_nil (suc h - 1) m (omega arith))

bracket_low : (h m : ℕ) (s : List ℕ) → Balanced s → Low (suc h) m s → Low h m (bracketed s)
bracket_low h m s b f =
    let l = low_here (suc h) m s f in
    low_cons h m opening (s ++ (closing ∷ [])) (omega arith) (part_both (suc h) m s (closing ∷ []) b f (closing_low h m l))

-- two sums in a bracket
pair_balanced : (c : ℕ) (s t : List ℕ) → ((h : ℕ) → moved h c ≡ h) → Balanced s → Balanced t → Balanced (paired c s t)
unfolding level
pair_balanced c s t i a b h =
    level-append (suc h) s (blank ∷ c ∷ blank ∷ (t ++ (closing ∷ [])))
    ∙ (ap (λ z. level z (blank ∷ c ∷ blank ∷ (t ++ (closing ∷ [])))) (a (suc h))
    ∙ (ap (λ z. level z (t ++ (closing ∷ []))) (i (suc h)) ∙ (level-append (suc h) t (closing ∷ []) ∙ (ap (λ z. level z (closing ∷ [])) (b (suc h)) ∙ omega arith))))

between_stays : {c : ℕ} {o : Binary} → Between c o → (h : ℕ) → moved h c ≡ h
between_stays merge h = refl
between_stays left_merge h = refl
between_stays communication h = refl
between_stays unless h = refl

pair-first : (h m c : ℕ) (s t : List ℕ) → Low h m (paired c s t) → Low (suc h) m s
pair-first h m c s t f = low_left (suc h) m s (blank ∷ c ∷ blank ∷ (t ++ (closing ∷ []))) (low_rest h m opening (s ++ (blank ∷ c ∷ blank ∷ (t ++ (closing ∷ [])))) f)

pair-second : (h m c : ℕ) (s t : List ℕ) → ((h : ℕ) → moved h c ≡ h) → Balanced s → Low h m (paired c s t) → Low (suc h) m t
pair-second h m c s t i b f =
    let g = part_right (suc h) m s (blank ∷ c ∷ blank ∷ (t ++ (closing ∷ []))) b (low_rest h m opening (s ++ (blank ∷ c ∷ blank ∷ (t ++ (closing ∷ [])))) f) in
    let j = low_rest (suc h) m c (blank ∷ (t ++ (closing ∷ []))) (low_rest (suc h) m blank (c ∷ blank ∷ (t ++ (closing ∷ []))) g) in
    let k = low_rest (suc h) m blank (t ++ (closing ∷ [])) (subst (λ z. Low z m (blank ∷ (t ++ (closing ∷ [])))) (i (suc h)) j) in
    low_left (suc h) m t (closing ∷ []) k

pair_low : (h m c : ℕ) (s t : List ℕ) → ((h : ℕ) → moved h c ≡ h) → Balanced s → Balanced t → Low (suc h) m s → Low (suc h) m t → Low h m (paired c s t)
pair_low h m c s t i a b f g =
    let l = low_here (suc h) m s f in
    let k = part_both (suc h) m t (closing ∷ []) b g (closing_low h m l) in
    let j = low_cons (suc h) m c (blank ∷ (t ++ (closing ∷ []))) l (subst (λ z. Low z m (blank ∷ (t ++ (closing ∷ [])))) (sym (i (suc h))) (low_cons (suc h) m blank (t ++ (closing ∷ [])) l k)) in
    low_cons h m opening (s ++ (blank ∷ c ∷ blank ∷ (t ++ (closing ∷ [])))) (omega arith)
    (part_both (suc h) m s (blank ∷ c ∷ blank ∷ (t ++ (closing ∷ []))) a f (low_cons (suc h) m blank (c ∷ blank ∷ (t ++ (closing ∷ []))) l j))

-- typed texts are balanced
product_balanced : (u : Term) (s : List ℕ) → Balanced s → Balanced (as_product u s)
product_balanced (act a) s b = b
product_balanced (un o x) s b = b
product_balanced (bin Choice x y) s b = bracket_balanced s b
product_balanced (bin Sequence x y) s b = b
product_balanced (bin Merge x y) s b = b
product_balanced (bin LeftMerge x y) s b = b
product_balanced (bin CommunicationMerge x y) s b = b
product_balanced (bin Unless x y) s b = b

unit_balanced : (u : Term) (s : List ℕ) → Balanced s → Balanced (as_unit u s)
unit_balanced (act a) s b = b
unit_balanced (un o x) s b = b
unit_balanced (bin Choice x y) s b = bracket_balanced s b
unit_balanced (bin Sequence x y) s b = bracket_balanced s b
unit_balanced (bin Merge x y) s b = b
unit_balanced (bin LeftMerge x y) s b = b
unit_balanced (bin CommunicationMerge x y) s b = b
unit_balanced (bin Unless x y) s b = b

joined_balanced : (c : ℕ) (s t : List ℕ) → ((h : ℕ) → moved h c ≡ h) → Balanced s → Balanced t → Balanced (s ++ (c ∷ t))
unfolding level
joined_balanced c s t i a b h = level-append h s (c ∷ t) ∙ (ap (λ z. level z (c ∷ t)) (a h) ∙ (ap (λ z. level z t) (i h) ∙ b h))

typed_balanced : (u : Term) → Balanced (typed u)
unfolding typed level
typed_balanced (act a) = number_balanced a
typed_balanced (un Priority x) = bracket_balanced (typed x) (typed_balanced x)
typed_balanced (un (Encapsulation h) x) = λ i. ap (λ z. level z (bracketed (typed x))) (digit_stays h i) ∙ bracket_balanced (typed x) (typed_balanced x) i
typed_balanced (bin Choice x y) = joined_balanced plus (typed x) (as_product y (typed y)) (λ h. refl) (typed_balanced x) (product_balanced y (typed y) (typed_balanced y))
typed_balanced (bin Sequence x y) =
    joined_balanced dot (as_product x (typed x)) (as_unit y (typed y)) (λ h. refl) (product_balanced x (typed x) (typed_balanced x)) (unit_balanced y (typed y) (typed_balanced y))
typed_balanced (bin Merge x y) = pair_balanced 35 (typed x) (typed y) (λ h. refl) (typed_balanced x) (typed_balanced y)
typed_balanced (bin LeftMerge x y) = pair_balanced 91 (typed x) (typed y) (λ h. refl) (typed_balanced x) (typed_balanced y)
typed_balanced (bin CommunicationMerge x y) = pair_balanced 124 (typed x) (typed y) (λ h. refl) (typed_balanced x) (typed_balanced y)
typed_balanced (bin Unless x y) = pair_balanced 60 (typed x) (typed y) (λ h. refl) (typed_balanced x) (typed_balanced y)

-- brackets that are not needed only go deeper
unbracket : (h m : ℕ) (s : List ℕ) → Low h m (bracketed s) → Low h m s
unbracket h m s f = low_less h m s (bracket-inside h m s f)

product_low : (h m : ℕ) (u : Term) (s : List ℕ) → Low h m (as_product u s) → Low h m s
product_low h m (act a) s f = f
product_low h m (un o x) s f = f
product_low h m (bin Choice x y) s f = unbracket h m s f
product_low h m (bin Sequence x y) s f = f
product_low h m (bin Merge x y) s f = f
product_low h m (bin LeftMerge x y) s f = f
product_low h m (bin CommunicationMerge x y) s f = f
product_low h m (bin Unless x y) s f = f

unit_low : (h m : ℕ) (u : Term) (s : List ℕ) → Low h m (as_unit u s) → Low h m (as_product u s)
unit_low h m (act a) s f = f
unit_low h m (un o x) s f = f
unit_low h m (bin Choice x y) s f = f
unit_low h m (bin Sequence x y) s f = unbracket h m s f
unit_low h m (bin Merge x y) s f = f
unit_low h m (bin LeftMerge x y) s f = f
unit_low h m (bin CommunicationMerge x y) s f = f
unit_low h m (bin Unless x y) s f = f

inner_low : (h m : ℕ) (u : Term) (s : List ℕ) → Balanced s → Low (suc h) m s → Low h m (as_unit u s)
inner_low h m (act a) s b f = low_less h m s f
inner_low h m (un o x) s b f = low_less h m s f
inner_low h m (bin Choice x y) s b f = bracket_low h m s b f
inner_low h m (bin Sequence x y) s b f = bracket_low h m s b f
inner_low h m (bin Merge x y) s b f = low_less h m s f
inner_low h m (bin LeftMerge x y) s b f = low_less h m s f
inner_low h m (bin CommunicationMerge x y) s b f = low_less h m s f
inner_low h m (bin Unless x y) s b f = low_less h m s f

-- each way of making a text goes at least as deep
record Deep (f : Term → List ℕ → List ℕ) (s : List ℕ) (u : Term) : Type 0 where
  even : Balanced s
  above : (h m : ℕ) → Low h m s → Low h m (f u (typed u))

abbrev as_sum : Term → List ℕ → List ℕ
as_sum u s = s

joined-deep : (c h m : ℕ) (s t s' t' : List ℕ) → ((h : ℕ) → moved h c ≡ h) → Balanced s → Balanced s' → (Low h m s → Low h m s') → (Low h m t → Low h m t')
    → Low h m (s ++ (c ∷ t)) → Low h m (s' ++ (c ∷ t'))
joined-deep c h m s t s' t' i a b x y f =
    let g = low_rest h m c t (part_right h m s (c ∷ t) a f) in
    let j = y (subst (λ z. Low z m t) (i h) g) in
    part_both h m s' (c ∷ t') b (x (low_left h m s (c ∷ t) f)) (low_cons h m c t' (low_here h m t' j) (subst (λ z. Low z m t') (sym (i h)) j))

pair-deep : (c : ℕ) (o : Binary) (s t : List ℕ) (u v : Term) → Between c o → Deep as_sum s u → Deep as_sum t v → Deep as_unit (paired c s t) (bin o u v)
unfolding typed
pair-deep c o s t u v b x y = record { even = pair_balanced c s t (between_stays b) x.even y.even; above = λ h m f. goes b h m f }
  where
    lower : (c : ℕ) → ((h : ℕ) → moved h c ≡ h) → (h m : ℕ) → Low h m (paired c s t) → Low h m (paired c (typed u) (typed v))
    lower c i h m f =
        pair_low h m c (typed u) (typed v) i (typed_balanced u) (typed_balanced v) (x.above (suc h) m (pair-first h m c s t f)) (y.above (suc h) m (pair-second h m c s t i x.even f))

    goes : {c : ℕ} {o : Binary} → Between c o → (h m : ℕ) → Low h m (paired c s t) → Low h m (as_unit (bin o u v) (typed (bin o u v)))
    goes merge h m f = lower 35 (λ i. refl) h m f
    goes left_merge h m f = lower 91 (λ i. refl) h m f
    goes communication h m f = lower 124 (λ i. refl) h m f
    goes unless h m f = lower 60 (λ i. refl) h m f

shallow_ways : Ways (Deep as_sum) (Deep as_product) (Deep as_unit)
unfolding typed level
shallow_ways =
    record {
      one_product = λ s u x. record { even = x.even; above = λ h m f. product_low h m u (typed u) (x.above h m f) };
      sum = λ s t u v x y.
          record {
            even = joined_balanced plus s t (λ h. refl) x.even y.even;
            above = λ h m f. joined-deep plus h m s t (typed u) (as_product v (typed v)) (λ h. refl) x.even (typed_balanced u) (x.above h m) (y.above h m) f;
          };
      one_unit = λ s u x. record { even = x.even; above = λ h m f. unit_low h m u (typed u) (x.above h m f) };
      product = λ s t u v x y.
          record {
            even = joined_balanced dot s t (λ h. refl) x.even y.even;
            above = λ h m f.
                joined-deep dot h m s t (as_product u (typed u)) (as_unit v (typed v)) (λ h. refl) x.even (product_balanced u (typed u) (typed_balanced u)) (x.above h m) (y.above h m) f;
          };
      action = λ s a x. record { even = decimal_balanced x; above = λ h m f. number_low h m a (low_here h m s f) };
      bracket = λ s u x.
          record { even = bracket_balanced s x.even; above = λ h m f. inner_low h m u (typed u) (typed_balanced u) (x.above (suc h) m (bracket-inside h m s f)) };
      priority = λ s u x.
          record {
            even = bracket_balanced s x.even;
            above = λ h m f.
                low_cons h m tee (bracketed (typed u)) (low_here h m (tee ∷ bracketed s) f)
                (bracket_low h m (typed u) (typed_balanced u) (x.above (suc h) m (bracket-inside h m s (low_rest h m tee (bracketed s) f))));
          };
      encapsulation = λ j s u l x.
          record {
            even = λ i. ap (λ z. level z (bracketed s)) (digit_stays j i) ∙ bracket_balanced s x.even i;
            above = λ h m f.
                low_cons h m aitch ((nought + j) ∷ bracketed (typed u)) (low_here h m (aitch ∷ (nought + j) ∷ bracketed s) f)
                (digits_low h m j (bracketed (typed u)) (low_here h m (aitch ∷ (nought + j) ∷ bracketed s) f)
                (bracket_low h m (typed u) (typed_balanced u)
                (x.above (suc h) m (bracket-inside h m s (subst (λ z. Low z m (bracketed s)) (digit_stays j h) (low_rest h m (nought + j) (bracketed s) (low_rest h m aitch ((nought + j) ∷ bracketed s) f)))))));
          };
      pair = pair-deep;
    }

pub typed_shallowest : (m : ℕ) {s : List ℕ} {u : Term} → SumOf s u → Within m s → Within m (typed u)
typed_shallowest m x f = (every_sum (Deep as_sum) (Deep as_product) (Deep as_unit) shallow_ways x).above 0 m f

-- every plan can be typed, wherever 200 levels are enough for it
pub plan-typed : (n : ℕ) (u : Term) (s : List ℕ) → n ≤ 99 → Over n u → SumOf s u → Within 200 s → read_text n (typed u) ≡ Plan (words u)
plan-typed n u s few h x f = typed_read n few u h (typed_shallowest 200 x f)
