-- Alike down to a depth, a tool of the proofs: an equivalence at every depth. (`Alike` shows that at every depth it is alike.)
use Prim.Native.Nat.{ℕ, suc, zero}
use Rattle.trees.specs.Tree.{Tree, Rest, finish, further, Has}

-- each branch of either is matched in the other, down to depth k
mutual
  pub data AlikeTo : ℕ → Tree → Tree → Type 0 where
    shallow : {s t : Tree} → AlikeTo zero s t
    deep : {k : ℕ} {s t : Tree}
        → ((a : ℕ) (n : Rest) → Has a n s → MatchedTo k a n t)
        → ((a : ℕ) (n : Rest) → Has a n t → MatchedTo k a n s)
        → AlikeTo (suc k) s t

  pub data MatchedTo : ℕ → ℕ → Rest → Tree → Type 0 where
    matched_to : {k a : ℕ} {n m : Rest} {t : Tree} → Has a m t → RestTo k n m → MatchedTo k a n t

  pub data RestTo : ℕ → Rest → Rest → Type 0 where
    finishes : {k : ℕ} → RestTo k finish finish
    leads : {k : ℕ} {n m : Tree} → AlikeTo k n m → RestTo k (further n) (further m)

-- each branch of s is matched in t
abbrev pub Within : ℕ → Tree → Tree → Type 0
Within k s t = (a : ℕ) (n : Rest) → Has a n s → MatchedTo k a n t

pub within_of : {k : ℕ} {s t : Tree} → AlikeTo (suc k) s t → Within k s t
within_of (deep f g) = f

-- reflexive
rest_same : {k : ℕ} → ((s : Tree) → AlikeTo k s s) → (n : Rest) → RestTo k n n
rest_same f finish = finishes
rest_same f (further n) = leads (f n)

pub depth_refl : (k : ℕ) (s : Tree) → AlikeTo k s s
depth_refl zero s = shallow
depth_refl (suc k) s = deep (λ a n h. matched_to h (rest_same (depth_refl k) n)) (λ a n h. matched_to h (rest_same (depth_refl k) n))

pub rest_refl : {k : ℕ} {n : Rest} → RestTo k n n
rest_refl {k} {n} = rest_same (depth_refl k) n

pub within_refl : {k : ℕ} {s : Tree} → Within k s s
within_refl a n h = matched_to h rest_refl

-- symmetric
pub depth_sym : {k : ℕ} {s t : Tree} → AlikeTo k s t → AlikeTo k t s
depth_sym shallow = shallow
depth_sym (deep f g) = deep g f

pub rest_sym : {k : ℕ} {n m : Rest} → RestTo k n m → RestTo k m n
rest_sym finishes = finishes
rest_sym (leads p) = leads (depth_sym p)

-- transitive
module _ {k : ℕ} (tr : (s t u : Tree) → AlikeTo k s t → AlikeTo k t u → AlikeTo k s u) where
  rest_trans : {l n m : Rest} → RestTo k l n → RestTo k n m → RestTo k l m
  rest_trans finishes finishes = finishes
  rest_trans (leads p) (leads q) = leads (tr _ _ _ p q)

  matched_trans : {a : ℕ} {l n : Rest} {t : Tree} → RestTo k l n → MatchedTo k a n t → MatchedTo k a l t
  matched_trans b (matched_to h c) = matched_to h (rest_trans b c)

  follow : {a : ℕ} {n : Rest} {t u : Tree} → MatchedTo k a n t → Within k t u → MatchedTo k a n u
  follow {a} (matched_to {m = m} h b) g = matched_trans b (g a m h)

pub depth_trans : (k : ℕ) (s t u : Tree) → AlikeTo k s t → AlikeTo k t u → AlikeTo k s u
depth_trans zero s t u p q = shallow
depth_trans (suc k) s t u (deep f f') (deep g g') =
    deep (λ a n h. follow (depth_trans k) (f a n h) g) (λ a n h. follow (depth_trans k) (g' a n h) f')

-- less deep
rest-less : {j k : ℕ} → ((s t : Tree) → AlikeTo j s t → AlikeTo k s t) → {n m : Rest} → RestTo j n m → RestTo k n m
rest-less f finishes = finishes
rest-less f (leads p) = leads (f _ _ p)

matched-less : {j k : ℕ} → ((s t : Tree) → AlikeTo j s t → AlikeTo k s t) → {a : ℕ} {n : Rest} {t : Tree} → MatchedTo j a n t → MatchedTo k a n t
matched-less f (matched_to h b) = matched_to h (rest-less f b)

pub depth_less : (k : ℕ) (s t : Tree) → AlikeTo (suc k) s t → AlikeTo k s t
depth_less zero s t p = shallow
depth_less (suc k) s t (deep f g) =
    deep (λ a n h. matched-less (depth_less k) (f a n h)) (λ a n h. matched-less (depth_less k) (g a n h))
