-- Where the parts of a plan's term stand among its words.
use Prim.Native.Nat.{ℕ, suc, ◌+◌, ◌-◌, ◌≤◌}
use native.Mathlib.Omega.{arith}
use mathlib.Core.Path.{◌≡◌, refl, ap, sym, ◌∙◌}
use mathlib.Core.List.{List, [], ◌∷◌, ◌++◌, append_assoc, append-nil}
use mathlib.Core.Option.{some}
use lib.ListN.{length, get_or, take, length-append}
use lib.Seq.{get_or_at, take_at}
use Rattle.plans.specs.declared.Binary.{Binary}
use Rattle.plans.specs.Word.{binary_word}
use Rattle.plans.specs.Term.{Term, act, bin, words, Over, read, term_of}
use Rattle.plans.specs.Place.{subterm}
use Rattle.plans.specs.Start.{start_of, begins}
use Rattle.plans.proofs.Reading.{read-on, read-words, term-said}
use Rattle.plans.proofs.Place.{stack-subterm}
use Rattle.plans.proofs.Accepted.{words_some}
use Rattle.paths.specs.Subplans.{place_of}
use Rattle.paths.specs.Operands.{first_operand}

pub size-bin : (o : Binary) (x y : Term) → length (words (bin o x y)) ≡ suc (length (words x) + length (words y))
unfolding words
size-bin o x y = simp length-append (omega arith)

-- a term whose words stand in a plan from word s on, behind words that are read
pub record Standing (n : ℕ) (plan : List ℕ) (s : ℕ) (u : Term) : Type 0 where
  pub before : List ℕ
  pub behind : List ℕ
  pub waiting : List Term
  pub cut : plan ≡ before ++ (words u ++ behind)
  pub from : length before ≡ s
  pub reads : read n before [] ≡ some waiting
  pub over : Over n u

pub standing_whole : (n : ℕ) (plan : List ℕ) (u : Term) → term_of n plan ≡ some u → Standing n plan 0 u
unfolding read
standing_whole n plan u e =
    let k = term-said n plan u e in
    record { before = []; behind = []; waiting = []; cut = sym (append-nil (words u) ∙ k.0); from = refl; reads = refl; over = k.1 }

module _ {n : ℕ} (few : n ≤ 31) {plan : List ℕ} {s : ℕ} where
  pub standing_inside : {u : Term} → Standing n plan s u → s + length (words u) ≤ length plan
  standing_inside {u} k = omega (arith, k.from, ap length k.cut, length-append k.before (words u ++ k.behind), length-append (words u) k.behind)

  pub standing_action : {a : ℕ} → Standing n plan s (act a) → get_or plan s 0 ≡ a
  unfolding words
  standing_action {a} k = rw k.cut (get_or_at k.before a k.behind 0 s k.from)

  pub standing_subterm : {u : Term} → Standing n plan s u → subterm n plan (place_of s u) ≡ some u
  standing_subterm {u} k =
      stack-subterm n plan (place_of s u) u k.waiting (omega (arith, standing_inside k, words_some u))
      (ap (λ l. read n l []) taken
      ∙ (read-on n k.before (words u) [] k.waiting k.reads ∙ read-words n few u k.waiting k.over))
    where
      taken : take (suc (place_of s u)) plan ≡ k.before ++ words u
      taken =
          ap (take (suc (place_of s u))) (k.cut ∙ sym (append_assoc k.before (words u) k.behind))
          ∙ take_at (k.before ++ words u) k.behind (suc (place_of s u)) (omega (arith, length-append k.before (words u), k.from, words_some u))

  pub standing_start : {u : Term} → Standing n plan s u → start_of n plan (place_of s u) ≡ s
  unfolding start_of
  standing_start {u} k = ap (λ o. begins o (place_of s u)) (standing_subterm k) ∙ omega (arith, words_some u)

module _ {n : ℕ} (few : n ≤ 31) {plan : List ℕ} {s : ℕ} {o : Binary} {x y : Term} (k : Standing n plan s (bin o x y)) where
  pub standing_first : Standing n plan s x
  unfolding words
  standing_first =
      record {
        before = k.before;
        behind = words y ++ (binary_word o ∷ k.behind);
        waiting = k.waiting;
        cut = k.cut ∙ ap (λ l. k.before ++ l) (simp append_assoc);
        from = k.from;
        reads = k.reads;
        over = k.over.0;
      }

  pub standing_second : Standing n plan (s + length (words x)) y
  unfolding words
  standing_second =
      record {
        before = k.before ++ words x;
        behind = binary_word o ∷ k.behind;
        waiting = x ∷ k.waiting;
        cut = k.cut ∙ simp append_assoc;
        from = omega (arith, length-append k.before (words x), k.from);
        reads = read-on n k.before (words x) [] k.waiting k.reads ∙ read-words n few x k.waiting k.over.0;
        over = k.over.1;
      }

  pub standing_sign : get_or plan (place_of s (bin o x y)) 0 ≡ binary_word o
  unfolding words
  standing_sign =
      rw (k.cut ∙ whole)
      (get_or_at (k.before ++ (words x ++ words y)) (binary_word o) k.behind 0 (place_of s (bin o x y))
      (omega (arith, length-append k.before (words x ++ words y), length-append (words x) (words y), k.from, size-bin o x y)))
    where
      whole : k.before ++ (words (bin o x y) ++ k.behind) ≡ (k.before ++ (words x ++ words y)) ++ (binary_word o ∷ k.behind)
      whole = simp append_assoc

  pub standing_operand : first_operand n plan (place_of s (bin o x y)) ≡ place_of s x
  unfolding first_operand
  standing_operand = ap (λ i. start_of n plan i - 1) target_place ∙ ap (λ i. i - 1) (standing_start few standing_second)
    where
      target_place : place_of s (bin o x y) - 1 ≡ place_of (s + length (words x)) y
      target_place = omega (arith, size-bin o x y, words_some y)
