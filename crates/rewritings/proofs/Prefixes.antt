-- Steps at the last of the words read: what a law gives there, and the unfolding's next step, by the words read and the words behind them.
use Prim.Native.Nat.{ℕ, suc, zero, ◌-◌, ◌≤◌, ◌<◌}
use native.Mathlib.Omega.{arith}
use mathlib.Core.Path.{◌≡◌, refl, sym, ◌∙◌, ap, subst}
use mathlib.Core.Bool.{Bool, true, false}
use mathlib.Core.Logic.{◌↔◌}
use mathlib.Core.List.{List, [], ◌∷◌, ◌++◌, append-nil, append_assoc}
use mathlib.Core.Option.{Option, none, some, some-injective}
use lib.ListN.{length, take, length-append}
use lib.Seq.{take-append-le, drop-append_seam}
use lib.Dec.{eqb}
use borrow.Author.Tests.{eqb-true, eqb-false}
use Rattle.tables.specs.Tables.{Tables, actions}
use Rattle.tables.specs.Search.{first_from}
use Rattle.plans.specs.Term.{Term, words, and_then}
use Rattle.plans.specs.Place.{subterm, replace}
use Rattle.plans.specs.Start.{start_of}
use Rattle.plans.proofs.Options.{never}
use Rattle.plans.proofs.Start.{subterm-prefix}
use Rattle.laws.specs.Laws.{law_at, rewrite, first_choice, choices}
use Rattle.laws.specs.Step.{step}
use Rattle.rewritings.specs.Roots.{law_term, first_law, else_law}
use Rattle.rewritings.specs.Choice.{found_at, lowest_law, next_step}
use Rattle.rewritings.proofs.Finding.{none_search, search_first}
use Rattle.rewritings.proofs.Choosing.{none_fits, fits_none}

-- the lowest of laws 5 to 32 that fits at a plan's last word
unfoldable pub first-term : Tables → ℕ → List ℕ → Option (ℕ × Term)
first-term t n plan = and_then (subterm n plan (length plan - 1)) (λ u. first_law t first_choice choices u)

-- the plan that a term v gives at the last of the words pre, with the words suf behind
abbrev pub put_last : ℕ → List ℕ → List ℕ → List ℕ → List ℕ
put_last n pre suf v = take (start_of n pre (length pre - 1)) pre ++ (v ++ suf)

module _ (t : Tables) (pre suf : List ℕ) (filled : 1 ≤ length pre) where
  abbrev n : ℕ
  n = actions t

  abbrev p : ℕ
  p = length pre - 1

  last-long : suc p ≡ length pre
  last-long = omega arith

  same_sub : subterm n (pre ++ suf) p ≡ subterm n pre p
  same_sub = subterm-prefix n pre suf (length pre - 1) (omega arith)

  replaced : (u v : Term) → subterm n pre p ≡ some u → replace (pre ++ suf) p u v ≡ put_last n pre suf (words v)
  unfolding replace start_of
  replaced u v e =
      rw (e, last-long, drop-append_seam pre suf, take-append-le (length pre - length (words u)) pre suf (omega arith))

  -- a law at the last word
  pub last-fails : (k : ℕ) → law_term t n k pre ≡ none → step t k p (pre ++ suf) ≡ none
  unfolding law_term step
  last-fails k e = rw same_sub (go (subterm (actions t) pre (length pre - 1)) e)
    where
      inner : (u : Term) (o : Option Term) → o ≡ none → and_then o (λ v. some (replace (pre ++ suf) (length pre - 1) u v)) ≡ none
      inner u none e = refl
      inner u (some v) e = never (sym e)

      go : (o : Option Term) → and_then o (λ u. rewrite t (law_at k) u) ≡ none
          → and_then o (λ u. and_then (rewrite t (law_at k) u) (λ v. some (replace (pre ++ suf) (length pre - 1) u v))) ≡ none
      go none e = refl
      go (some u) e = inner u (rewrite t (law_at k) u) e

  pub last_fits : (k : ℕ) (v : Term) → law_term t n k pre ≡ some v → step t k p (pre ++ suf) ≡ some (put_last n pre suf (words v))
  unfolding law_term step
  last_fits k v e = rw same_sub (go (subterm (actions t) pre (length pre - 1)) refl e)
    where
      go : (o : Option Term) → subterm (actions t) pre (length pre - 1) ≡ o → and_then o (λ u. rewrite t (law_at k) u) ≡ some v
          → and_then o (λ u. and_then (rewrite t (law_at k) u) (λ v. some (replace (pre ++ suf) (length pre - 1) u v))) ≡ some (put_last (actions t) pre suf (words v))
      go none q e = never e
      go (some u) q e = rw e (ap some (replaced u v q))

  -- the lowest law there
  abbrev Lowest : ℕ → ℕ → Option (ℕ × Term) → Type 0
  Lowest k m none = first_from (λ j. found_at j p (step t j p (pre ++ suf))) k m ≡ none
  Lowest k m (some c) = first_from (λ j. found_at j p (step t j p (pre ++ suf))) k m ≡ some (record { law = c.0; place = p; plan = put_last n pre suf (words c.1) })

  lowest : (u : Term) → subterm n pre p ≡ some u → (m k : ℕ) → Lowest k m (first_law t k m u)
  unfolding first_law first_from law_term
  lowest u e zero k = refl
  lowest u e (suc m) k = go (rewrite t (law_at k) u) refl (first_law t (suc k) m u) (lowest u e m (suc k))
    where
      at_term : (o : Option Term) → rewrite t (law_at k) u ≡ o → law_term t n k pre ≡ o
      at_term o q = ap (λ (z : Option Term). and_then z (λ u. rewrite t (law_at k) u)) e ∙ q

      go : (o : Option Term) → rewrite t (law_at k) u ≡ o → (r : Option (ℕ × Term)) → Lowest (suc k) m r → Lowest k (suc m) (else_law o k r)
      go none q none h = rw (last-fails k (at_term none q)) h
      go none q (some c) h = rw (last-fails k (at_term none q)) h
      go (some v) q none h = rw (last_fits k v (at_term (some v) q))
      go (some v) q (some c) h = rw (last_fits k v (at_term (some v) q))

  pub lowest_none : first-term t n pre ≡ none → lowest_law t (pre ++ suf) p ≡ none
  unfolding first-term lowest_law law_term
  lowest_none e = go (subterm n pre p) refl e
    where
      none_lowest : (r : Option (ℕ × Term)) → r ≡ none → Lowest first_choice choices r → first_from (λ j. found_at j p (step t j p (pre ++ suf))) first_choice choices ≡ none
      none_lowest none q h = h
      none_lowest (some c) q h = never (sym q)

      no_sub : subterm n pre p ≡ none → (j : ℕ) → found_at j p (step t j p (pre ++ suf)) ≡ none
      no_sub q j = rw (last-fails j (ap (λ (z : Option Term). and_then z (λ u. rewrite t (law_at j) u)) q))

      go : (o : Option Term) → subterm n pre p ≡ o → and_then o (λ u. first_law t first_choice choices u) ≡ none → first_from (λ j. found_at j p (step t j p (pre ++ suf))) first_choice choices ≡ none
      go none q e = none_search (λ j. found_at j p (step t j p (pre ++ suf))) choices first_choice (λ j h l. no_sub q j)
      go (some u) q e = none_lowest (first_law t first_choice choices u) e (lowest u q choices first_choice)

  pub lowest_some : (k : ℕ) (v : Term) → first-term t n pre ≡ some (k, v)
      → lowest_law t (pre ++ suf) p ≡ some (record { law = k; place = p; plan = put_last n pre suf (words v) })
  unfolding first-term lowest_law
  lowest_some k v e = go (subterm n pre p) refl e
    where
      some_lowest : (r : Option (ℕ × Term)) → r ≡ some (k, v) → Lowest first_choice choices r
          → first_from (λ j. found_at j p (step t j p (pre ++ suf))) first_choice choices ≡ some (record { law = k; place = p; plan = put_last n pre suf (words v) })
      some_lowest none q h = never q
      some_lowest (some c) q h =
          h ∙ ap (λ (z : ℕ × Term). some (record { law = z.0; place = p; plan = put_last n pre suf (words z.1) })) (some-injective _ _ q)

      go : (o : Option Term) → subterm n pre p ≡ o → and_then o (λ u. first_law t first_choice choices u) ≡ some (k, v)
          → first_from (λ j. found_at j p (step t j p (pre ++ suf))) first_choice choices ≡ some (record { law = k; place = p; plan = put_last n pre suf (words v) })
      go none q e = never e
      go (some u) q e = some_lowest (first_law t first_choice choices u) e (lowest u q choices first_choice)

-- whether a law fits at a place goes by the words up to the place alone
pub no_fit : (t : Tables) (k p : ℕ) (ws : List ℕ) → (step t k p ws ≡ none) ↔ (and_then (subterm (actions t) ws p) (λ u. rewrite t (law_at k) u) ≡ none)
unfolding step
no_fit t k p ws = go (subterm (actions t) ws p)
  where
    inner : (u : Term) (o : Option Term) → (and_then o (λ v. some (replace ws p u v)) ≡ none) ↔ (o ≡ none)
    inner u none = (λ e. refl, λ e. refl)
    inner u (some v) = (λ e. never (sym e), λ e. never (sym e))

    go : (o : Option Term) → (and_then o (λ u. and_then (rewrite t (law_at k) u) (λ v. some (replace ws p u v))) ≡ none) ↔ (and_then o (λ u. rewrite t (law_at k) u) ≡ none)
    go none = (λ e. refl, λ e. refl)
    go (some u) = inner u (rewrite t (law_at k) u)

module _ (t : Tables) (pre suf : List ℕ) where
  no_fit-more : (k p : ℕ) → p < length pre → step t k p pre ≡ none → step t k p (pre ++ suf) ≡ none
  no_fit-more k p h e = (no_fit t k p (pre ++ suf)).1 (rw (subterm-prefix (actions t) pre suf p h) ((no_fit t k p pre).0 e))

  no_fit-fewer : (k p : ℕ) → p < length pre → step t k p (pre ++ suf) ≡ none → step t k p pre ≡ none
  no_fit-fewer k p h e = (no_fit t k p pre).1 (rw (subterm-prefix (actions t) pre suf p h) at ((no_fit t k p (pre ++ suf)).0 e))

  -- no law fits at any place of fewer words
  pub quiet-fewer : next_step t (pre ++ suf) ≡ none → next_step t pre ≡ none
  quiet-fewer e =
      fits_none t pre (λ p k h l u. no_fit-fewer k p h (none_fits t (pre ++ suf) e p k (omega (arith, length-append pre suf)) l u))

  -- nor at those places with more words behind
  pub quiet-place : next_step t pre ≡ none → (p : ℕ) → p < length pre → lowest_law t (pre ++ suf) p ≡ none
  unfolding lowest_law
  quiet-place e p h =
      none_search (λ k. found_at k p (step t k p (pre ++ suf))) choices first_choice
      (λ k l u. ap (found_at k p) (no_fit-more k p h (none_fits t pre e p k h l (omega arith))))

-- one word more is read, where no law fitted before it
module _ (t : Tables) (pre : List ℕ) (w : ℕ) (quiet : next_step t pre ≡ none) where
  more : List ℕ
  more = pre ++ (w ∷ [])

  more-long : length more ≡ suc (length pre)
  unfolding more
  more-long = omega (arith, length-append pre (w ∷ []))

  last-place : length more - 1 ≡ length pre
  last-place = omega (arith, more-long)

  -- no law fits there either
  pub scan_on : first-term t (actions t) (pre ++ (w ∷ [])) ≡ none → next_step t (pre ++ (w ∷ [])) ≡ none
  unfolding next_step more
  scan_on e =
      none_search (lowest_law t (pre ++ (w ∷ []))) (length (pre ++ (w ∷ []))) 0 (λ p h l. go p (omega (arith, more-long)) (eqb p (length pre)) refl)
    where
      here : lowest_law t (pre ++ (w ∷ [])) (length pre) ≡ none
      here = rw (last-place, append-nil (pre ++ (w ∷ []))) at (lowest_none t (pre ++ (w ∷ [])) [] (omega (arith, more-long)) e)

      go : (p : ℕ) → p < suc (length pre) → (b : Bool) → eqb p (length pre) ≡ b → lowest_law t (pre ++ (w ∷ [])) p ≡ none
      go p h true q = let z : p ≡ length pre = eqb-true p (length pre) q in rw z here
      go p h false q = let z = eqb-false p (length pre) q in quiet-place t pre (w ∷ []) quiet p (omega arith)

  -- law k fits there: it is the next step of the whole plan
  pub scan_found : (suf : List ℕ) (k : ℕ) (v : Term) → first-term t (actions t) (pre ++ (w ∷ [])) ≡ some (k, v)
      → next_step t ((pre ++ (w ∷ [])) ++ suf) ≡ some (record { law = k; place = length pre; plan = put_last (actions t) (pre ++ (w ∷ [])) suf (words v) })
  unfolding next_step more
  scan_found suf k v e =
      search_first (lowest_law t ((pre ++ (w ∷ [])) ++ suf)) (length ((pre ++ (w ∷ [])) ++ suf)) 0 (length pre) _ (omega arith)
      (omega (arith, length-append (pre ++ (w ∷ [])) suf, more-long))
      (λ p h l. rw (append_assoc pre (w ∷ []) suf) (quiet-place t pre ((w ∷ []) ++ suf) quiet p l))
      (subst
      (λ (p : ℕ). lowest_law t ((pre ++ (w ∷ [])) ++ suf) p ≡ some (record { law = k; place = p; plan = put_last (actions t) (pre ++ (w ∷ [])) suf (words v) }))
      last-place (lowest_some t (pre ++ (w ∷ [])) suf (omega (arith, more-long)) k v e))
