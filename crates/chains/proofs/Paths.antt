-- Chains of places as paths: what is written outside a path does not change it, and paths are put one behind another.
use Prim.Native.Nat.{ℕ, suc, zero, ◌+◌, ◌≤◌, ◌<◌}
use native.Mathlib.Omega.{arith}
use native.Mathlib.Nat.{suc-add}
use mathlib.Core.Path.{◌≡◌, refl, sym, ap, ap₂, subst, ◌∙◌}
use mathlib.Core.List.{List, [], ◌∷◌, ◌++◌}
use lib.ListN.{length, get_or, take, length-append}
use borrow.Author.Tests.{lt-ltb, le-ltb}
use Rattle.areas.specs.Area.{most_words}
use Rattle.chains.specs.Chain.{word_at, after, walk, Path, last, on, over}

-- inside a list no default is read
pub get_d_any : (l : List ℕ) (i d e : ℕ) → i < length l → get_or l i d ≡ get_or l i e
get_d_any [] i d e h = absurd (omega arith)
get_d_any (a ∷ l) zero d e h = refl
get_d_any (a ∷ l) (suc i) d e h = get_d_any l i d e (omega arith)

-- the position after a place, and after a sign; the word of a sign
pub after-place : (links : List ℕ) (x : ℕ) → x < most_words → after links x ≡ get_or links x 0
unfolding after
after-place links x h = rw (lt-ltb x most_words h) refl

pub after_sign : (links : List ℕ) (x : ℕ) → after links (most_words + x) ≡ x
unfolding after
after_sign links x = rw (le-ltb (most_words + x) most_words (omega arith)) (omega arith)

path_lower : {links : List ℕ} {lo t k x : ℕ} (lo' : ℕ) → lo' ≤ lo → Path links lo t k x → Path links lo' t k x
path_lower lo' h last = last
path_lower lo' h (on {x = x} i j c) = on {x = x} (omega arith) j (path_lower lo' h c)
path_lower lo' h (over c) = over (path_lower lo' h c)

-- the links from lo on and before t are the same
abbrev pub Agree : ℕ → ℕ → List ℕ → List ℕ → Type 0
Agree lo t x y = (p : ℕ) → lo ≤ p → p < t → get_or x p 0 ≡ get_or y p 0

module _ (links links' : List ℕ) (lo t : ℕ) (high : t ≤ most_words) (f : Agree lo t links links') where
  after_same : (x : ℕ) → lo ≤ x → x < t → after links x ≡ after links' x
  after_same x h i = after-place links x (omega arith) ∙ (f x h i ∙ sym (after-place links' x (omega arith)))

  pub path-kept : {k x : ℕ} → Path links lo t k x → Path links' lo t k x
  path-kept last = last
  path-kept (on {k = k} {x = x} h i c) = on {k = k} {x = x} h i (subst (λ y. Path links' lo t k y) (after_same x h i) (path-kept c))
  path-kept (over c) = over (path-kept c)

  pub walk_kept : {k x : ℕ} (ws : List ℕ) → Path links lo t k x → walk ws links k x ≡ walk ws links' k x
  unfolding walk
  walk_kept ws last = refl
  walk_kept ws (on {k = k} {x = x} h i c) = ap (λ l. word_at ws x ∷ l) (walk_kept ws c ∙ ap (walk ws links' k) (after_same x h i))
  walk_kept ws (over {k = k} {x = x} c) =
      ap (λ l. word_at ws (most_words + x) ∷ l)
      (ap (walk ws links k) (after_sign links x) ∙ (walk_kept ws c ∙ ap (walk ws links' k) (sym (after_sign links' x))))

-- a path goes on from its last place
module _ (links : List ℕ) (lo t u : ℕ) (low : lo ≤ t) (high : t < u) where
  path-append : {k x : ℕ} (j : ℕ) → Path links lo t k x → Path links lo u j (after links t) → Path links lo u (k + j) x
  path-append j last c = subst (λ n. Path links lo u n t) (one_more j) (on low high c)
    where
      one_more : (j : ℕ) → suc j ≡ 1 + j
      one_more j = omega arith
  path-append j (on {k = k} {x = x} h i d) c = subst (λ n. Path links lo u n x) (sym (suc-add k j)) (on h (omega arith) (path-append j d c))
  path-append j (over {k = k} {x = x} d) c = subst (λ n. Path links lo u n (most_words + x)) (sym (suc-add k j)) (over (path-append j d c))

  walk-append : {k x : ℕ} (ws : List ℕ) (j : ℕ) → Path links lo t k x → walk ws links (k + j) x ≡ walk ws links k x ++ walk ws links j (after links t)
  unfolding walk
  walk-append ws j last = ap (λ n. walk ws links n t) (one_more j)
    where
      one_more : (j : ℕ) → 1 + j ≡ suc j
      one_more j = omega arith
  walk-append ws j (on {k = k} {x = x} h i d) = ap (λ n. walk ws links n x) (suc-add k j) ∙ ap (λ l. word_at ws x ∷ l) (walk-append ws j d)
  walk-append ws j (over {k = k} {x = x} d) =
      ap (λ n. walk ws links n (most_words + x)) (suc-add k j)
      ∙ ap (λ l. word_at ws (most_words + x) ∷ l)
      (ap (walk ws links (k + j)) (after_sign links x) ∙ (walk-append ws j d ∙ ap (λ y. walk ws links k y ++ walk ws links j (after links t)) (sym (after_sign links x))))

pub walk-length : (ws links : List ℕ) (k x : ℕ) → length (walk ws links k x) ≡ k
unfolding walk
walk-length ws links zero x = refl
walk-length ws links (suc k) x = ap suc (walk-length ws links k (after links x))

-- a shorter walk is the front of a longer one
pub walk_front : (ws links : List ℕ) (k j x : ℕ) → walk ws links k x ≡ take k (walk ws links (k + j) x)
unfolding walk
walk_front ws links zero j x = refl
walk_front ws links (suc k) j x =
    ap (λ l. word_at ws x ∷ l) (walk_front ws links k j (after links x)) ∙ ap (λ n. take (suc k) (walk ws links n x)) (sym (suc-add k j))

-- the words w lead from position x to place t
pub record Spells (ws links : List ℕ) (lo t x : ℕ) (w : List ℕ) : Type 0 where
  pub path : Path links lo t (length w) x
  pub words : walk ws links (length w) x ≡ w

pub spells_walk : (ws links : List ℕ) (lo t k x : ℕ) → Path links lo t k x → Spells ws links lo t x (walk ws links k x)
spells_walk ws links lo t k x p =
    let e = walk-length ws links k x in
    record { path = subst (λ n. Path links lo t n x) (sym e) p; words = ap (λ n. walk ws links n x) e }

module _ {ws links : List ℕ} {lo t x : ℕ} {w : List ℕ} (s : Spells ws links lo t x w) where
  pub spells_lower : (lo' : ℕ) → lo' ≤ lo → Spells ws links lo' t x w
  spells_lower lo' h = record { path = path_lower lo' h s.path; words = s.words }

  pub spells_kept : (links' : List ℕ) → t ≤ most_words → Agree lo t links links' → Spells ws links' lo t x w
  spells_kept links' h f =
      record { path = path-kept links links' lo t h f s.path; words = sym (walk_kept links links' lo t h f ws s.path) ∙ s.words }

  pub spells_append : (u : ℕ) (v : List ℕ) → lo ≤ t → t < u → Spells ws links lo u (after links t) v → Spells ws links lo u x (w ++ v)
  spells_append u v h i r =
      let e = length-append w v in
      record {
        path = subst (λ n. Path links lo u n x) (sym e) (path-append links lo t u h i (length v) s.path r.path);
        words =
            ap (λ n. walk ws links n x) e
            ∙ (walk-append links lo t u h i ws (length v) s.path ∙ ap₂ ◌++◌ s.words r.words);
      }

  -- with a sign before them
  pub spells_sign : word_at ws (most_words + x) ≡ 64 → Spells ws links lo t (most_words + x) (64 ∷ w)
  unfolding walk
  spells_sign e = record { path = over s.path; words = ap₂ (λ a l. a ∷ l) e (ap (walk ws links (length w)) (after_sign links x) ∙ s.words) }
