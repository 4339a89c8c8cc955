-- How far the three readers come, in the words of the code: the rules at the places of a text, with the words stored.
use Prim.Native.Nat.{ℕ, suc, ◌+◌, ◌≤◌, ◌<◌}
use native.Mathlib.Omega.{arith}
use native.Mathlib.Numerals.{add-one}
use mathlib.Core.Path.{◌≡◌, refl, sym, subst}
use mathlib.Core.Bool.{true, false}
use mathlib.Core.List.{List, [], ◌∷◌, ◌++◌, append-nil}
use lib.ListN.{length, get_or, drop, length-append, drop_of_length-le}
use lib.Seq.{drop-cons}
use Rattle.plans.specs.declared.Binary.{Binary}
use Rattle.grammar.specs.declared.Bracket.{Bracket}
use Rattle.grammar.specs.declared.Bracket.TheVariants.{Plain, OfPriority, OfSet, Second}
use Rattle.grammar.specs.Character.{plus, dot, closing}
use Rattle.grammar.specs.States.{closed}
use Rattle.grammar.specs.Reading.{byte_of, Fault, read_text}
use Rattle.texts.specs.Readers.{ProductReads, SumReads, UnitStops, ProductStops, SumStops, Enters, next_is, Stored, Acts, Opens, Signs, WrongBehind, Reached, UnitTo, ProductTo, SumTo, ReadWhole}
use Rattle.texts.proofs.Rules.{product-begins, product-goes-on, product_stops, sum-begins, sum-goes-on, sum_stops, second-enters, bracket_closes, bracket_stops, text_read, text_goes-on}
use Rattle.texts.proofs.Storing.{stored-nothing, stored_more}
use Rattle.texts.proofs.Next.{is_there}
use Rattle.texts.proofs.Endings.{not_closed}

-- a reader makes no more words than it reads characters
pub reached_few : {Reads : ℕ → List ℕ → List ℕ → Type 0} {text a a' : List ℕ} {q m j m' : ℕ} → Reached Reads text a a' q m j m' → m' + q ≤ m + j
reached_few x = omega (arith, x.few, x.stored.counted)

-- the same place and the same words, with another thing said of them
reached_as : {A B : ℕ → List ℕ → List ℕ → Type 0} {text a a' : List ℕ} {q m j m' : ℕ} (x : Reached A text a a' q m j m') → B j (drop j text) x.out
    → Reached B text a a' q m j m'
reached_as x e = record { out = x.out; is_read = e; stored = x.stored; on = x.on; inside = x.inside; few = x.few }

-- one reader behind another, with a character between them, and a sign stored behind the words of both
reached_joined : {A B C : ℕ → List ℕ → List ℕ → Type 0} {text a b c e : List ℕ} {q m h k j m' m'' s : ℕ} (x : Reached A text a b q m h k)
    (y : Reached B text b c (h + 1) k j m') → Stored c e m' m'' (s ∷ []) → C j (drop j text) (x.out ++ (y.out ++ (s ∷ []))) → Reached C text a e q m j m''
reached_joined {s} x y z e =
    let u = x.out in
    let v = y.out in
    record {
      out = u ++ (v ++ (s ∷ []));
      is_read = e;
      stored = stored_more x.stored (stored_more y.stored z);
      on = omega (arith, x.on, y.on);
      inside = y.inside;
      few = omega (arith, x.few, y.few, length-append u (v ++ (s ∷ [])), length-append v (s ∷ []));
    }

module _ (n d : ℕ) (text : List ℕ) (q : ℕ) where
  -- some units of a product
  abbrev pub Units : ℕ → List ℕ → List ℕ → Type 0
  Units j r w = ProductReads n d q (drop q text) j r w

  pub units_begin : {a a' : List ℕ} {m j m' : ℕ} → Reached (UnitTo n d text q) text a a' q m j m' → Reached Units text a a' q m j m'
  units_begin {j} x = reached_as x (product-begins n d q j (drop q text) (drop j text) x.out x.is_read)

  pub units_go_on : {a b c e : List ℕ} {m h k j m' m'' : ℕ} → d ≤ 200 → Reached Units text a b q m h k → next_is dot (drop h text) ≡ true
      → Reached (UnitTo n d text (h + 1)) text b c (h + 1) k j m' → Stored c e m' m'' (65 ∷ []) → Reached Units text a e q m j m''
  units_go_on {h} {j} l x g y s =
      let i = is_there text h dot g in
      reached_joined x y s
      (product-goes-on n d q h j (drop q text) (drop (suc h) text) (drop j text) x.out y.out l
      (subst (λ r. ProductReads n d q (drop q text) h r x.out) i.left x.is_read) (rw (add-one h) at y.is_read))

  pub units_end : {a a' : List ℕ} {m j m' : ℕ} → Reached Units text a a' q m j m' → next_is dot (drop j text) ≡ false → Reached (ProductTo n d text q) text a a' q m j m'
  units_end x e = reached_as x (x.is_read, e)

  pub units_stop : {a b : List ℕ} {m h k c f : ℕ} → d ≤ 200 → Reached Units text a b q m h k → next_is dot (drop h text) ≡ true
      → UnitStops n d (h + 1) (drop (h + 1) text) c f → ProductStops n d q (drop q text) c f
  units_stop {h} {c} {f} l x g y =
      let i = is_there text h dot g in
      product_stops n d q h c f (drop q text) (drop (suc h) text) x.out l
      (subst (λ r. ProductReads n d q (drop q text) h r x.out) i.left x.is_read) (rw (add-one h) at y)

  -- some products of a sum
  abbrev pub Products : ℕ → List ℕ → List ℕ → Type 0
  Products j r w = SumReads n d q (drop q text) j r w × (next_is dot r ≡ false)

  pub products_begin : {a a' : List ℕ} {m j m' : ℕ} → Reached (ProductTo n d text q) text a a' q m j m' → Reached Products text a a' q m j m'
  products_begin {j} x = reached_as x (sum-begins n d q j (drop q text) (drop j text) x.out x.is_read.0, x.is_read.1)

  pub products_go_on : {a b c e : List ℕ} {m h k j m' m'' : ℕ} → d ≤ 200 → Reached Products text a b q m h k → next_is plus (drop h text) ≡ true
      → Reached (ProductTo n d text (h + 1)) text b c (h + 1) k j m' → Stored c e m' m'' (64 ∷ []) → Reached Products text a e q m j m''
  products_go_on {h} {j} l x g y s =
      let i = is_there text h plus g in
      reached_joined x y s (
        sum-goes-on n d q h j (drop q text) (drop (suc h) text) (drop j text) x.out y.out l
            (subst (λ r. SumReads n d q (drop q text) h r x.out) i.left x.is_read.0) (rw (add-one h) at y.is_read.0) y.is_read.1,
        y.is_read.1,
      )

  pub products_end : {a a' : List ℕ} {m j m' : ℕ} → Reached Products text a a' q m j m' → next_is plus (drop j text) ≡ false → Reached (SumTo n d text q) text a a' q m j m'
  products_end x e = reached_as x (x.is_read.0, x.is_read.1, e)

  pub products_stop : {a b : List ℕ} {m h k c f : ℕ} → d ≤ 200 → Reached Products text a b q m h k → next_is plus (drop h text) ≡ true
      → ProductStops n d (h + 1) (drop (h + 1) text) c f → SumStops n d q (drop q text) c f
  products_stop {h} {c} {f} l x g y =
      let i = is_there text h plus g in
      sum_stops n d q h c f (drop q text) (drop (suc h) text) x.out l
      (subst (λ r. SumReads n d q (drop q text) h r x.out) i.left x.is_read.0) (rw (add-one h) at y)

  -- a unit that is an action
  pub action_reached : {b c : List ℕ} {a m j m' : ℕ} → Acts n d text q a j → Stored b c m m' (a ∷ []) → Reached (UnitTo n d text q) text b c q m j m'
  action_reached {a} x s = record { out = a ∷ []; is_read = x.is_read; stored = s; on = x.on; inside = x.inside; few = omega (arith, x.on) }

  -- a bracket has been opened, and its last sum begins at place f
  pub record Entered (b : Bracket) (a a' : List ℕ) (m f k : ℕ) : Type 0 where
    pub out : List ℕ
    pub enters : Enters n d q (drop q text) b f (drop f text) out
    pub stored : Stored a a' m k out
    pub on : q < f
    pub inside : f ≤ length text
    pub few : q + length out < f

  pub first_entered : {b : Bracket} (a : List ℕ) (m : ℕ) {j : ℕ} → Opens n d text q b j → Entered b a a m j m
  first_entered a m x = record { out = []; enters = x.enters; stored = stored-nothing a m; on = x.on; inside = x.inside; few = omega (arith, x.on) }

  pub second_entered : {b : Bracket} {o : Binary} {a a' : List ℕ} {m j e k : ℕ} → Opens n d text q b j → Reached (SumTo n (d + 1) text j) text a a' j m e k
      → Signs text e b o → Entered (Second o) a a' m (e + 3) k
  second_entered {b} {o} {j} {e} x y s =
      let w = y.out in
      let three : e + 3 ≡ suc (suc (suc e)) = omega arith in
      let enters = subst (λ b. Enters n d q (drop q text) b j (drop j text) []) s.plain x.enters in
      let reads = subst (λ r. SumReads n (suc d) j (drop j text) e r w) s.left (rw (add-one d) at y.is_read.0) in
      record {
        out = w;
        enters =
            subst (λ z. Enters n d q (drop q text) (Second o) z (drop (e + 3) text) w) (sym three)
            (second-enters n d q j e s.character o (drop q text) (drop j text) (drop (e + 3) text) w x.shallow enters reads s.sign);
        stored = y.stored;
        on = omega (arith, x.on, y.on);
        inside = s.inside;
        few = omega (arith, x.on, y.few);
      }

  closed-behind : (b : Bracket) (w : List ℕ) → closed byte_of b w ≡ w ++ closed byte_of b []
  closed-behind Plain w = sym (append-nil w)
  closed-behind OfPriority w = refl
  closed-behind (OfSet h) w = refl
  closed-behind (Second o) w = refl

  closed-short : (b : Bracket) → length (closed byte_of b []) ≤ 1
  closed-short Plain = omega arith
  closed-short OfPriority = omega arith
  closed-short (OfSet h) = omega arith
  closed-short (Second o) = omega arith

  -- it is closed
  pub bracket_reached : {b : Bracket} {a a' a'' e : List ℕ} {m f k j m' m'' : ℕ} → d ≤ 200 → Entered b a a' m f k → Reached (SumTo n (d + 1) text f) text a' a'' f k j m'
      → next_is closing (drop j text) ≡ true → Stored a'' e m' m'' (closed byte_of b []) → Reached (UnitTo n d text q) text a e q m (j + 1) m''
  bracket_reached {b} {f} {j} l x y g s =
      let i = is_there text j closing g in
      let u = x.out in
      let v = y.out in
      let reads = subst (λ r. SumReads n (suc d) f (drop f text) j r v) i.left (rw (add-one d) at y.is_read.0) in
      record {
        out = (u ++ v) ++ closed byte_of b [];
        is_read =
            rw (add-one j, ← closed-behind b (u ++ v))
            (bracket_closes n d q f j b (drop q text) (drop f text) (drop (suc j) text) u v l x.enters reads);
        stored = stored_more (stored_more x.stored y.stored) s;
        on = omega (arith, x.on, y.on);
        inside = omega (arith, i.inside);
        few = omega (arith, x.few, y.few, closed-short b, length-append (u ++ v) (closed byte_of b []), length-append u v);
      }

  -- or something is wrong
  pub bracket-stopped : {b : Bracket} {a a' : List ℕ} {m f k c p : ℕ} → Entered b a a' m f k → SumStops n (d + 1) f (drop f text) c p → UnitStops n d q (drop q text) c p
  bracket-stopped {b} {f} {c} {p} x y = bracket_stops n d q f c p b (drop q text) (drop f text) x.out x.enters (rw (add-one d) at y)

  pub bracket_wrong : {b : Bracket} {a a' : List ℕ} {m j e k p : ℕ} → Opens n d text q b j → Reached (SumTo n (d + 1) text j) text a a' j m e k
      → WrongBehind b e (drop e text) p → UnitStops n d q (drop q text) 61 p
  bracket_wrong {j} x y f = f n d q j (drop q text) (drop j text) y.out x.shallow x.enters y.is_read.0 y.is_read.1 y.is_read.2

  pub second_wrong : {o : Binary} {a a' a'' : List ℕ} {m f k j m' : ℕ} → Entered (Second o) a a' m f k → Reached (SumTo n (d + 1) text f) text a' a'' f k j m'
      → next_is closing (drop j text) ≡ false → UnitStops n d q (drop q text) 61 j
  second_wrong {o} {f} {j} x y g =
      not_closed n d q f j (Second o) (drop q text) (drop f text) (drop j text) x.out y.out refl x.enters (rw (add-one d) at y.is_read.0) y.is_read.1 y.is_read.2 g

-- a whole text: nothing is left behind its sum, or a character that cannot go on
pub whole-read : (n : ℕ) (text : List ℕ) {a a' : List ℕ} {j m : ℕ} → Reached (SumTo n 0 text 0) text a a' 0 0 j m → length text ≤ j → ReadWhole n text a a' m
whole-read n text {j} x h =
    record {
      out = x.out;
      is_read = text_read n j text x.out (subst (λ r. SumReads n 0 0 text j r x.out) (drop_of_length-le text {i = j} h) x.is_read.0);
      stored = x.stored;
    }

pub whole-goes-on : (n : ℕ) (text : List ℕ) {a a' : List ℕ} {j m : ℕ} → Reached (SumTo n 0 text 0) text a a' 0 0 j m → j < length text → read_text n text ≡ Fault 61 j
whole-goes-on n text {j} x h =
    let e = drop-cons text j 0 h in
    text_goes-on n j (get_or text j 0) text (drop (suc j) text) x.out (subst (λ r. SumReads n 0 0 text j r x.out) e x.is_read.0)
    (subst (λ r. next_is dot r ≡ false) e x.is_read.1) (subst (λ r. next_is plus r ≡ false) e x.is_read.2)
