-- The words of a plan put into entries to read, and a plan or a term that a graph holds written out as its words.
use Prim.Native.Nat.{ℕ, ◌+◌, ◌-◌, ◌≤◌, ◌<◌}
use native.Mathlib.Omega.{arith}
use mathlib.Core.Path.{◌≡◌, sym, ◌∙◌, ap}
use mathlib.Core.Bool.{Bool, true, false}
use mathlib.Core.List.{List, [], ◌∷◌, ◌++◌, append_assoc}
use lib.ListN.{length, get_or, set, take, drop, length-append, length-drop, length-set}
use lib.Seq.{take_all, get_or-drop}
use Rattle.areas.specs.Area.{overwrite, most_words}
use Rattle.areas.proofs.Area.{end-written, take-overwrite}
use Rattle.plans.specs.declared.Unary.{Unary}
use Rattle.plans.specs.declared.Unary.TheVariants.{Priority, Encapsulation}
use Rattle.plans.specs.Word.{unary_word, takes_two?}
use Rattle.plans.specs.Term.{Term, words, SetNumber}
use Rattle.plans.specs.Stack.{spell, stacked}
use Rattle.plans.proofs.Words.{binary_range, two_unary, two_binary}
use Rattle.plans.proofs.Stack.{stacked-length, stacked-push}
use Rattle.graph.specs.Graph.{Graph, Root, root_one, root_two, Held, ToRead, ToWrite, write_none, write_more, as_word, onto, Nodes, Writable, WroteBack}
use Rattle.graph.proofs.Reading.{written-holds, to_read-words, to_read-long, held-long, held-to_write, onto-to_write}
use Rattle.graph.proofs.Terms.{root_same}
use Rattle.graphsteps.specs.declared.Cut.{Cut}
use Rattle.rounds.specs.Rounds.{PlanOf, WroteOut, RedexOf, RedexIn}

-- The plan loaded -----------------------------------------------------------------------------------------------------------------------------

-- the words of a plan put to the end of the entries to read
pub loaded : (ws todo todo' : List ℕ) (front : ℕ) → length ws ≡ most_words → length todo ≡ most_words → front ≤ most_words → ((k : ℕ) → get_or ws k 0 < 256)
    → todo' ≡ overwrite todo front (take (length ws - front) (drop front ws)) → (n : ℕ) (g : Graph) → ToRead n g (drop front todo') (drop front ws)
loaded ws todo todo' front long long' within bytes e n g =
    let a : take (length ws - front) (drop front ws) ≡ drop front ws = take_all (length ws - front) (drop front ws) (omega (arith, length-drop front ws)) in
    let q : drop front todo' ≡ drop front ws = rw (e, a) (end-written todo front (drop front ws) (omega (arith, length-drop front ws))) in
    rw q (to_read-words (drop front ws) (λ k h. rw (get_or-drop front ws k 0) (bytes (front + k))))

pub load_room : (ws : List ℕ) (front : ℕ) → length ws ≡ most_words → front ≤ most_words → front + length (take (length ws - front) (drop front ws)) ≤ most_words
load_room ws front long within =
    rw (take_all (length ws - front) (drop front ws) (omega (arith, length-drop front ws))) (omega (arith, length-drop front ws))

-- A plan written out --------------------------------------------------------------------------------------------------------------------------

module _ (g : Graph) (stack : List ℕ) (height : ℕ) (todo : List ℕ) (rest : ℕ) where
  -- there is room for its entries on the stack
  pub entries_fit : PlanOf g stack height todo rest → length todo ≡ most_words → rest ≤ most_words → height + (length todo - rest) ≤ most_words
  entries_fit p long within =
      omega (arith, (held-long p.held).0, to_read-long p.to_read, stacked-length stack height, length-drop rest todo, length-append (spell p.terms) p.behind, p.short)

  pub plan-entries : (stack' : List ℕ) (entries n : ℕ) (terms : List Term) (behind : List ℕ) → stacked stack' entries ≡ onto (drop rest todo) (stacked stack height)
      → n ≤ 31 → Held n g (stacked stack height) terms → ToRead n g (drop rest todo) behind → ToWrite n g (stacked stack' entries) (spell terms ++ behind)
  plan-entries stack' entries n terms behind e few held to_read = rw e (onto-to_write (held-to_write few held) to_read)

  pub plan_writable : (stack' dst : List ℕ) (entries : ℕ) → stacked stack' entries ≡ onto (drop rest todo) (stacked stack height)
      → Nodes g → PlanOf g stack height todo rest → length stack' ≡ most_words → length dst ≡ most_words → Writable g stack' entries dst most_words
  plan_writable stack' dst entries e nodes p long long' =
      record {
        n = p.n;
        said = spell p.terms ++ p.behind;
        few = p.few;
        nodes = nodes;
        entries = plan-entries stack' entries p.n p.terms p.behind e p.few p.held p.to_read;
        before_end = p.short;
        end_in = omega arith;
        enough = omega arith;
      }

  pub plan-written : (stack' dst dst' : List ℕ) (entries r : ℕ) → stacked stack' entries ≡ onto (drop rest todo) (stacked stack height)
      → length dst ≡ most_words → WroteBack g stack' entries dst dst' most_words r → WroteOut g stack height todo rest dst' r
  plan-written stack' dst dst' entries r e long w =
      record {
        wrote = λ n terms behind few held to_read.
            let h = w.wrote n (spell terms ++ behind) few (plan-entries stack' entries n terms behind e few held to_read) in
            (rw h.0 (end-written dst r (spell terms ++ behind) (h.1 ∙ sym long)), h.1);
      }

-- A term written out --------------------------------------------------------------------------------------------------------------------------

unary_high : (o : Unary) → SetNumber o → unary_word o ≤ 87
unfolding unary_word
unary_high Priority k = omega arith
unary_high (Encapsulation h) k = omega arith

clash : ◌≡◌ {A = Bool} true false → ⊥
clash q = let z : ◌≡◌ {A = ℕ} 0 1 = cc in omega arith

-- its sign on a stack, on the entries of its operands
pub data Signed (stack : List ℕ) (word a b : ℕ) (s : List ℕ) (h : ℕ) : Type 0 where
  sign-one : takes_two? word ≡ false → s ≡ set stack 0 a → h ≡ 1 → Signed stack word a b s h
  sign-two : takes_two? word ≡ true → s ≡ set (set stack 0 a) 1 b → h ≡ 2 → Signed stack word a b s h

module _ (stack : List ℕ) (long : 2 < length stack) where
  one_entry : (a : ℕ) → stacked (set stack 0 a) 1 ≡ a ∷ []
  unfolding stacked
  one_entry a = stacked-push stack 0 a (omega arith)

  two-entries : (a b : ℕ) → stacked (set (set stack 0 a) 1 b) 2 ≡ b ∷ (a ∷ [])
  two-entries a b = stacked-push (set stack 0 a) 1 b (omega (arith, length-set stack 0 a)) ∙ ap (λ (z : List ℕ). b ∷ z) (one_entry a)

pub sign-room : {stack : List ℕ} {word a b : ℕ} {s : List ℕ} {h : ℕ} → Signed stack word a b s h → (h ≤ 2) × (length s ≡ length stack)
sign-room {stack} {a} (sign-one i e l) = (omega arith, rw e (length-set stack 0 a))
sign-room {stack} {a} {b} (sign-two i e l) = (omega arith, rw e (length-set (set stack 0 a) 1 b ∙ length-set stack 0 a))

module _ {n : ℕ} {g : Graph} (few : n ≤ 31) (stack : List ℕ) (long : 2 < length stack) (word a b : ℕ) where
  pub root-entries : {s : List ℕ} {h : ℕ} {u : Term} → Signed stack word a b s h → Root n g word a b u → ToWrite n g (stacked (set s h word) (h + 1)) (words u)
  unfolding words
  root-entries {s} {h} (sign-one i e l) (root_one {o} {x} w k held) =
      let p : stacked (set s h word) (h + 1) ≡ word ∷ (a ∷ []) =
      stacked-push s h word (omega (arith, sign-room {stack = stack} {a = a} {b = b} (sign-one i e l))) ∙ rw (e, l) (ap (λ (z : List ℕ). word ∷ z) (one_entry stack long a)) in
      rw (p, ← w) (write_more (as_word {v = word} (omega (arith, unary_high o k))) (write_more (written-holds held few) write_none))
  root-entries (sign-one i e l) (root_two {o} w held held') = let q : ◌≡◌ {A = Bool} true false = sym (two_binary o) ∙ rw w at i in absurd (clash q)
  root-entries (sign-two i e l) (root_one {o} w k held) = let q : ◌≡◌ {A = Bool} true false = sym (rw w at i) ∙ two_unary o k in absurd (clash q)
  root-entries {s} {h} (sign-two i e l) (root_two {o} {x} {y} w held held') =
      let p : stacked (set s h word) (h + 1) ≡ word ∷ (b ∷ (a ∷ [])) =
      stacked-push s h word (omega (arith, sign-room {stack = stack} {a = a} {b = b} (sign-two i e l))) ∙ rw (e, l) (ap (λ (z : List ℕ). word ∷ z) (two-entries stack long a b)) in
      rw (p, ← w, ← append_assoc (words x) (words y) (word ∷ []))
      (write_more (as_word {v = word} (omega (arith, binary_range o))) (write_more (written-holds held' few) (write_more (written-holds held few) write_none)))

module _ (g : Graph) (stack : List ℕ) (k : Cut) (long : length stack ≡ most_words) (s : List ℕ) (h : ℕ) (signed : Signed stack k.word k.a k.b s h) where
  pub root_writable : (old : List ℕ) → Nodes g → RedexOf g k → length old ≡ most_words → k.old ≤ most_words → Writable g (set s h k.word) (h + 1) old k.old
  root_writable old nodes r long' within =
      record {
        n = r.n;
        said = words r.redex;
        few = r.few;
        nodes = nodes;
        entries = root-entries r.few stack (omega arith) k.word k.a k.b signed r.root;
        before_end = omega (arith, r.old_is);
        end_in = omega arith;
        enough = omega (arith, length-set s h k.word, sign-room signed);
      }

  -- whatever term the cut took away, it is this one
  pub root-written : (old old' : List ℕ) (from : ℕ) → length old ≡ most_words → k.old ≤ most_words → RedexOf g k
      → WroteBack g (set s h k.word) (h + 1) old old' k.old from → RedexIn g k old'
  root-written old old' from long' within r w = record { redex_in = in_old }
    where
      in_old : (n : ℕ) (u : Term) → n ≤ 31 → Root n g k.word k.a k.b u → take k.old old' ≡ words u
      in_old n u few root =
          let e : r.redex ≡ u = root_same r.n n r.few few g r.root root in
          let o : k.old ≡ 0 + length (words u) = omega (arith, r.old_is, ap (λ (z : Term). length (words z)) e) in
          let p = w.wrote n (words u) few (root-entries few stack (omega arith) k.word k.a k.b signed root) in
          let f : from ≡ 0 = omega (arith, p.1) in
          rw (p.0, f, o) (take-overwrite old 0 (words u) (omega arith))
