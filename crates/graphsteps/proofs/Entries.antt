-- The next entry of a plan under work on a graph: a term, or a sign whose operands are on the stack.
use Prim.Native.Nat.{ℕ, ◌+◌, ◌≤◌, ◌<◌}
use native.Mathlib.Omega.{arith}
use native.Mathlib.Numerals.{add-one}
use mathlib.Core.Path.{◌≡◌, refl, sym, ◌∙◌, ap, subst}
use mathlib.Core.List.{List, [], ◌∷◌, ◌++◌}
use mathlib.Core.Option.{Option, none, some}
use lib.ListN.{length, get_or, drop}
use lib.Seq.{drop-cons}
use Rattle.plans.specs.declared.Word.{Word}
use Rattle.plans.specs.declared.Unary.{Unary}
use Rattle.plans.specs.declared.Binary.{Binary}
use Rattle.plans.specs.Word.{unary_word, binary_word, word_of}
use Rattle.plans.specs.Term.{Term, act, words, SetNumber, push, read, and_then, sole, term_of}
use Rattle.plans.specs.Stack.{spell}
use Rattle.plans.specs.Judging.{words_refusal}
use Rattle.plans.proofs.Options.{never, and_then_some}
use Rattle.plans.proofs.Words.{Spelled, is_action, is_one, is_two, is_none, spelled}
use Rattle.plans.proofs.Reading.{OverAll, read-append, read-spell}
use Rattle.plans.proofs.Accepted.{accepted-term}
use Rattle.graph.specs.Graph.{Graph, Holds, leaf, Written, as_word, as_term, ToRead, read_more}
use Rattle.graph.proofs.Reading.{written-node, written-action}

-- the first of the entries still to read, and the words that it is written as
pub record First (n : ℕ) (g : Graph) (v : ℕ) (vs ws : List ℕ) : Type 0 where
  pub said : List ℕ
  pub later : List ℕ
  pub written : Written n g v said
  pub rest : ToRead n g vs later
  pub both : ws ≡ said ++ later

uncons : {n : ℕ} {g : Graph} {v : ℕ} {vs ws : List ℕ} → ToRead n g (v ∷ vs) ws → First n g v vs ws
uncons (read_more {w = w} {ws = ws} h r) = record { said = w; later = ws; written = h; rest = r; both = refl }

pub first_entry : {n : ℕ} {g : Graph} (todo : List ℕ) (rest : ℕ) {ws : List ℕ} → rest < length todo → ToRead n g (drop rest todo) ws
    → First n g (get_or todo rest 0) (drop (rest + 1) todo) ws
first_entry {n} {g} todo rest {ws} l r =
    uncons (subst (λ (vs : List ℕ). ToRead n g vs ws) (drop-cons todo rest 0 l ∙ ap (λ (k : ℕ). get_or todo rest 0 ∷ drop k todo) (sym (add-one rest))) r)

-- an entry that is a node or an action stands for a term
pub record TermAt (n : ℕ) (g : Graph) (v : ℕ) (said : List ℕ) : Type 0 where
  pub term : Term
  pub holds : Holds n g v term
  pub its_words : said ≡ words term

pub node-term : {n : ℕ} {g : Graph} {v : ℕ} {said : List ℕ} → 256 ≤ v → Written n g v said → TermAt n g v said
node-term l h = let r = written-node l h in record { term = r.0; holds = r.1; its_words = r.2 }

pub action-term : {n : ℕ} {g : Graph} {v : ℕ} {said : List ℕ} → n ≤ 31 → v ≤ n → Written n g v said → TermAt n g v said
action-term {v = v} few l h = record { term = act v; holds = leaf l; its_words = written-action l h few }

-- an entry that is neither is a sign
pub sign_word : {n : ℕ} {g : Graph} {v : ℕ} {said : List ℕ} → v < 256 → Written n g v said → said ≡ v ∷ []
sign_word l (as_word h) = refl
sign_word l (as_term h k) = absurd (omega arith)

-- whose operands are the last terms read
pub data SignAt (v : ℕ) : List Term → Type 0 where
  sign_of-one : (o : Unary) (x : Term) (S : List Term) → v ≡ unary_word o → SetNumber o → SignAt v (x ∷ S)
  sign_of-two : (o : Binary) (x y : Term) (S : List Term) → v ≡ binary_word o → SignAt v (y ∷ (x ∷ S))

pushed : (n v : ℕ) (k : Word) (terms r : List Term) → Spelled n v k → n < v → push k terms ≡ some r → SignAt v terms
unfolding push
pushed n v k terms r (is_action h) l e = absurd (omega arith)
pushed n v k [] r (is_one o q h) l e = never e
pushed n v k (x ∷ S) r (is_one o q h) l e = sign_of-one o x S (sym q) h
pushed n v k [] r (is_two o q) l e = never e
pushed n v k (y ∷ []) r (is_two o q) l e = never e
pushed n v k (y ∷ (x ∷ S)) r (is_two o q) l e = sign_of-two o x y S (sym q)
pushed n v k terms r is_none l e = never e

pub sign_at : (n : ℕ) → n ≤ 31 → (terms : List Term) (v : ℕ) (later : List ℕ) → OverAll n terms → n < v
    → words_refusal n (spell terms ++ (v ∷ later)) ≡ none → SignAt v terms
unfolding term_of read
sign_at n few terms v later over l e =
    let u = accepted-term n few (spell terms ++ (v ∷ later)) e in
    let a = and_then_some (read n (spell terms ++ (v ∷ later)) []) sole u.1 in
    let q : and_then (push (word_of n v) terms) (λ r. read n later r) ≡ some a.0 =
    sym (read-append n (spell terms) (v ∷ later) [] ∙ ap (λ (o : Option (List Term)). and_then o (λ r. read n (v ∷ later) r)) (read-spell n few terms over)) ∙ a.1 in
    let b = and_then_some (push (word_of n v) terms) (λ r. read n later r) q in
    pushed n v (word_of n v) terms b.0 (spelled n v) l b.1
