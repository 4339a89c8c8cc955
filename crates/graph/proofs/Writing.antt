-- Entries written from the last word to the first: the word that is written next, and what is left to write then.
use Prim.Native.Nat.{ℕ, suc, ◌+◌, ◌-◌, ◌≤◌, ◌<◌}
use native.Mathlib.Omega.{arith}
use mathlib.Core.Path.{◌≡◌, refl, sym, ◌∙◌, ap}
use mathlib.Core.Bool.{true, false}
use mathlib.Core.List.{List, [], ◌∷◌, ◌++◌, append_assoc}
use lib.ListN.{length, get_or, set, length-append, length-set}
use lib.Seq.{take-set-le, drop-set-lt, drop-cons, get_or-set_same}
use Rattle.plans.specs.Word.{takes_two?}
use Rattle.plans.specs.Term.{words}
use Rattle.plans.specs.Stack.{stacked}
use Rattle.plans.proofs.Words.{two_binary, two_unary}
use Rattle.plans.proofs.Stack.{stacked-length, stacked-top, stacked-push}
use Rattle.areas.specs.Area.{overwrite}
use Rattle.areas.proofs.Area.{overwrite_none}
use Rattle.graph.specs.Graph.{Graph, leaf, one, two, Written, as_word, as_term, ToWrite, write_none, write_more, Writable, WroteBack, most_nodes}
use Rattle.graph.proofs.Terms.{holds_same}
use Rattle.graph.proofs.Reading.{holds-inside, written-holds, to_write_long}

-- The words of entries are determined ---------------------------------------------------------------------------------------------------------

module _ (n m : ℕ) (few : n ≤ 31) (few' : m ≤ 31) (g : Graph) where
  written_same : {v : ℕ} {w w' : List ℕ} → Written n g v w → Written m g v w' → w ≡ w'
  written_same (as_word h) (as_word h') = refl
  written_same (as_word h) (as_term i l) = absurd (omega arith)
  written_same (as_term i l) (as_word h) = absurd (omega arith)
  written_same (as_term i l) (as_term i' l') = ap words (holds_same n m few few' g l l')

  pub to_write_same : {vs ws ws' : List ℕ} → ToWrite n g vs ws → ToWrite m g vs ws' → ws ≡ ws'
  to_write_same write_none write_none = refl
  to_write_same (write_more {w} {ws} h r) (write_more {w = w'} {ws = ws'} h' r') =
      let p : w ≡ w' = written_same h h' in
      let q : ws ≡ ws' = to_write_same r r' in
      rw (p, q)

no_words : {n : ℕ} {g : Graph} {ws : List ℕ} → ToWrite n g [] ws → ws ≡ []
no_words write_none = refl

-- The last word -------------------------------------------------------------------------------------------------------------------------------

-- the words of some entries end in the word k, and those before it are the words of the entries vs
record Ends (n : ℕ) (g : Graph) (vs : List ℕ) (k : ℕ) (said : List ℕ) : Type 0 where
  left : List ℕ
  entries : ToWrite n g vs left
  whole : said ≡ left ++ (k ∷ [])

module _ {n : ℕ} (few : n ≤ 31) {g : Graph} {v : ℕ} {vs : List ℕ} where
  -- a word is written as itself
  ends-word : {said : List ℕ} → v < 256 → ToWrite n g (v ∷ vs) said → Ends n g vs v said
  ends-word h (write_more {ws} (as_word l) r) = record { left = ws; entries = r; whole = refl }
  ends-word h (write_more (as_term i l) r) = absurd (omega arith)

  -- a node is written as its operands and then its word
  node-inside : {said : List ℕ} → 256 ≤ v → ToWrite n g (v ∷ vs) said → v < length g.own
  node-inside i (write_more (as_word l) r) = absurd (omega arith)
  node-inside i (write_more (as_term i' l) r) = holds-inside l few i

  ends-one : {said : List ℕ} → 256 ≤ v → takes_two? (get_or g.own v 0) ≡ false → ToWrite n g (v ∷ vs) said
      → Ends n g (get_or g.first v 0 ∷ vs) (get_or g.own v 0) said
  unfolding words
  ends-one i h (write_more (as_word l) r) = absurd (omega arith)
  ends-one i h (write_more (as_term i' (leaf l)) r) = absurd (omega arith)
  ends-one i h (write_more {ws} (as_term i' (one {o} {x} i'' j e k l)) r) =
      record { left = ws ++ words x; entries = write_more (written-holds l few) r; whole = rw (e, append_assoc) }
  ends-one i h (write_more (as_term i' (two {o} i'' j e l m)) r) = absurd (let z : ◌≡◌ {A = ℕ} 0 1 = cc (two_binary o) in omega arith)

  ends-two : {said : List ℕ} → 256 ≤ v → takes_two? (get_or g.own v 0) ≡ true → ToWrite n g (v ∷ vs) said
      → Ends n g (get_or g.second v 0 ∷ (get_or g.first v 0 ∷ vs)) (get_or g.own v 0) said
  unfolding words
  ends-two i h (write_more (as_word l) r) = absurd (omega arith)
  ends-two i h (write_more (as_term i' (leaf l)) r) = absurd (omega arith)
  ends-two i h (write_more (as_term i' (one {o} i'' j e k l)) r) = absurd (let z : ◌≡◌ {A = ℕ} 0 1 = cc (two_unary o k) in omega arith)
  ends-two i h (write_more {ws} (as_term i' (two {o} {x} {y} i'' j e l m)) r) =
      record {
        left = (ws ++ words x) ++ words y;
        entries = write_more (written-holds m few) (write_more (written-holds l few) r);
        whole = rw e (simp append_assoc);
      }

-- the last word written first
overwrite-last : (d : List ℕ) (k : ℕ) (ws : List ℕ) (w : ℕ) → k + length ws < length d
    → overwrite (set d (k + length ws) w) k ws ≡ overwrite d k (ws ++ (w ∷ []))
unfolding overwrite
overwrite-last d k ws w h =
    let e : k + length (ws ++ (w ∷ [])) ≡ suc (k + length ws) = omega (arith, length-append ws (w ∷ [])) in
    let l : k + length ws < length (set d (k + length ws) w) = omega (arith, length-set d (k + length ws) w) in
    rw (e, take-set-le k d (k + length ws) w (omega arith), drop-cons (set d (k + length ws) w) (k + length ws) 0 l, get_or-set_same d (k + length ws) w 0 h, drop-set-lt (suc (k + length ws)) d (k + length ws) w (omega arith))
    (simp append_assoc)

-- The turns of the loop -----------------------------------------------------------------------------------------------------------------------

-- With the words of the entries left written too, the area is as it shall be.
pub record Writing (g : Graph) (stack₀ : List ℕ) (height : ℕ) (dst₀ : List ℕ) (end : ℕ) (stack dst : List ℕ) (h e : ℕ) : Type 0 where
  pub pre : Writable g stack₀ height dst₀ end
  pub left : List ℕ
  pub from : ℕ
  pub entries : ToWrite pre.n g (stacked stack h) left
  pub begins : from + length pre.said ≡ end
  pub ends : from + length left ≡ e
  pub low : e ≤ end
  pub same : overwrite dst from left ≡ overwrite dst₀ from pre.said
  pub stack_long : length stack ≡ length stack₀
  pub dst_long : length dst ≡ length dst₀
  pub room : h ≤ e

pub writing_starts : {g : Graph} {stack dst : List ℕ} {height end : ℕ} → Writable g stack height dst end
    → Writing g stack height dst end stack dst height end
writing_starts {stack} {height} {end} p =
    record {
      pre = p;
      left = p.said;
      from = end - length p.said;
      entries = p.entries;
      begins = omega arith;
      ends = omega arith;
      low = omega arith;
      same = refl;
      stack_long = refl;
      dst_long = refl;
      room = omega (arith, to_write_long p.entries, stacked-length stack height);
    }

module _ {g : Graph} {stack₀ : List ℕ} {height : ℕ} {dst₀ : List ℕ} {end : ℕ} {stack dst : List ℕ} {h e : ℕ} (s : Writing g stack₀ height dst₀ end stack dst h e) where
  -- a word is written, and the stack holds the entries that are left
  writing_goes-on : {k : ℕ} {vs : List ℕ} (stack' : List ℕ) (h' : ℕ) → Ends s.pre.n g vs k s.left → stacked stack' h' ≡ vs
      → length stack' ≡ length stack → Writing g stack₀ height dst₀ end stack' (set dst (e - 1) k) h' (e - 1)
  writing_goes-on {k} stack' h' x q l =
      let m : length s.left ≡ length x.left + 1 = ap length x.whole ∙ length-append x.left (k ∷ []) in
      let p : e - 1 ≡ s.from + length x.left = omega arith in
      record {
        pre = s.pre;
        left = x.left;
        from = s.from;
        entries = rw q x.entries;
        begins = s.begins;
        ends = sym p;
        low = omega arith;
        same = rw p (overwrite-last dst s.from x.left k (omega arith)) ∙ ap (overwrite dst s.from) (sym x.whole) ∙ s.same;
        stack_long = l ∙ s.stack_long;
        dst_long = length-set dst (e - 1) k ∙ s.dst_long;
        room = omega (arith, to_write_long x.entries, stacked-length stack' h', ap length q);
      }

  -- what the entry at the top is written as
  module _ (more : 0 < h) where
    abbrev pub top : ℕ
    top = get_or stack (h - 1) 0

    entries-top : ToWrite s.pre.n g (top ∷ stacked stack (h - 1)) s.left
    entries-top = rw (stacked-top stack h more) at s.entries

    pub turn_inside : 256 ≤ top → (top < length g.own) × (top < length g.first) × (top < length g.second) × (top < most_nodes)
    turn_inside i = let l = node-inside s.pre.few i entries-top in omega arith

    pub turn-word : top < 256 → Writing g stack₀ height dst₀ end stack (set dst (e - 1) top) (h - 1) (e - 1)
    turn-word i = writing_goes-on stack (h - 1) (ends-word s.pre.few i entries-top) refl refl

    pub turn_one : 256 ≤ top → takes_two? (get_or g.own top 0) ≡ false
        → Writing g stack₀ height dst₀ end (set stack (h - 1) (get_or g.first top 0)) (set dst (e - 1) (get_or g.own top 0)) (h - 1 + 1) (e - 1)
    turn_one i j =
        writing_goes-on (set stack (h - 1) (get_or g.first top 0)) (h - 1 + 1) (ends-one s.pre.few i j entries-top)
        (stacked-push stack (h - 1) (get_or g.first top 0) (omega arith)) (length-set stack (h - 1) (get_or g.first top 0))

    pub two-room : 256 ≤ top → takes_two? (get_or g.own top 0) ≡ true → h - 1 + 1 < length stack
    two-room i j =
        let x = ends-two s.pre.few i j entries-top in
        omega (arith, to_write_long x.entries, stacked-length stack (h - 1), ap length x.whole, length-append x.left (get_or g.own top 0 ∷ []))

    pub turn_two : 256 ≤ top → takes_two? (get_or g.own top 0) ≡ true
        → Writing g stack₀ height dst₀ end (set (set stack (h - 1) (get_or g.first top 0)) (h - 1 + 1) (get_or g.second top 0)) (set dst (e - 1) (get_or g.own top 0)) (h - 1 + 1 + 1) (e - 1)
    turn_two i j =
        let a = get_or g.first top 0 in
        let b = get_or g.second top 0 in
        let l = length-set stack (h - 1) a in
        writing_goes-on (set (set stack (h - 1) a) (h - 1 + 1) b) (h - 1 + 1 + 1) (ends-two s.pre.few i j entries-top)
        (stacked-push (set stack (h - 1) a) (h - 1 + 1) b (omega (arith, two-room i j)) ∙ ap (λ (z : List ℕ). b ∷ z) (stacked-push stack (h - 1) a (omega arith)))
        (length-set (set stack (h - 1) a) (h - 1 + 1) b ∙ l)

  -- nothing is left
  pub writing_ends : h ≡ 0 → WroteBack g stack₀ height dst₀ dst end e
  unfolding stacked
  writing_ends z =
      let l : s.left ≡ [] = no_words (rw z at s.entries) in
      let f : s.from ≡ e = omega (arith, ap length l) in
      let d : dst ≡ overwrite dst₀ e s.pre.said = sym (overwrite_none dst s.from) ∙ ap (overwrite dst s.from) (sym l) ∙ s.same ∙ ap (λ (k : ℕ). overwrite dst₀ k s.pre.said) f in
      record {
        wrote = λ m said few t.
            let q : said ≡ s.pre.said = to_write_same m s.pre.n few s.pre.few g t s.pre.entries in
            (rw q d, omega (arith, ap length q));
      }
