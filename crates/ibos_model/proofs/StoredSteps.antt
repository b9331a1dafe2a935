-- Losses take bytes of objects, and no labels: the objects of an origin are those of its puts, but for bytes that were lost.
use Rattle.std.proofs.Common.{◌≡◌, ℕ, ◌+◌, List, [], ◌∷◌, Bool, true, false, ◌&&◌, Option, Some, None, Ok, Err, Result, refl, sym, ◌∙◌, ap, subst, length}
use Rattle.std.specs.Prelude.{bytes_eq, if◌then◌else◌, nat_lt, not}
use Rattle.std.proofs.lemmas.List.Sums.{sum_by-cons}
use Rattle.std.proofs.lemmas.Slice.Eq.{bytes_eq-Decides}
use Rattle.ibos_kinds.specs.declared.act.Act.{Act}
use Rattle.ibos_kinds.specs.declared.act.Act.TheVariants.{Put, StoreLose}
use Rattle.ibos_kinds.specs.declared.names.Instance.{Instance}
use Rattle.ibos_kinds.specs.declared.rule.Rule.{Rule}
use Rattle.ibos_kinds.specs.declared.rule.Rule.TheVariants.{S1, S2, S3}
use Rattle.ibos_kinds.specs.Labels.{put_answer, quota_answer}
use Rattle.ibos_kinds.specs.Objects.{KeyObject, Newest, after_loss, after_put, is_key, is_over, newest_in, stored_bytes, version_of, with_loss, with_loss_of, with_newest, with_put}
use Rattle.ibos_origin.specs.Hosts.{HostTable}
use Rattle.ibos_model.specs.Journal.{Journal, is_accepted}
use Rattle.ibos_model.specs.Stored.{objects_by, objects_of, put_by, puts_of}
use Rattle.ibos_model.specs.Tabs.{origin_of}

-- the same version, whose bytes may be lost in the first
pub record IsLeft (now put : Newest) : Type 0 where
  pub version : now.version ≡ put.version
  pub len : now.len ≡ put.len
  pub bytes : (b : List ℕ) → now.bytes ≡ Some b → put.bytes ≡ Some b

-- the same keys in the same order, each with what is left of its newest version
abbrev pub AreLeft : List KeyObject → List KeyObject → Type 0
AreLeft [] [] = Unit {0}
AreLeft [] (y ∷ ys) = ⊥
AreLeft (x ∷ xs) [] = ⊥
AreLeft (x ∷ xs) (y ∷ ys) = (x.key ≡ y.key) × IsLeft x.newest y.newest × AreLeft xs ys

abbrev pub AreFound : Option Newest → Option Newest → Type 0
AreFound None None = Unit {0}
AreFound None (Some put) = ⊥
AreFound (Some now) None = ⊥
AreFound (Some now) (Some put) = IsLeft now put

-- ---- what is found under a key

pub found_left : (xs ys : List KeyObject) (key : List ℕ) → AreLeft xs ys → AreFound (newest_in xs key) (newest_in ys key)
found_left [] [] key left = tt
found_left [] (y ∷ ys) key left = absurd left
found_left (x ∷ xs) [] key left = absurd left
found_left (x ∷ xs) (y ∷ ys) key left = subst P left.0 (by_key (bytes_eq key x.key) (found_left xs ys key left.2))
  where
    P : List ℕ → Type 0
    P k = AreFound (newest_in (x ∷ xs) key) (if bytes_eq key k then Some y.newest else newest_in ys key)

    by_key : (same : Bool) → AreFound (newest_in xs key) (newest_in ys key) → AreFound (if same then Some x.newest else newest_in xs key) (if same then Some y.newest else newest_in ys key)
    by_key true rest = left.1
    by_key false rest = rest

version_same : (now put : Option Newest) → AreFound now put → version_of now ≡ version_of put
version_same None None found = refl
version_same None (Some put) found = absurd found
version_same (Some now) None found = absurd found
version_same (Some now) (Some put) found = found.version

-- ---- puts

put_left : (now put : Option Newest) (bytes : List ℕ) → AreFound now put → IsLeft (after_put now bytes) (after_put put bytes)
put_left now put bytes found = record { version = ap (λ v. v + 1) (version_same now put found); len = refl; bytes = λ b is. is }

with_newest_left : (xs ys : List KeyObject) (key : List ℕ) (now put : Newest) → AreLeft xs ys → IsLeft now put → AreLeft (with_newest key now xs) (with_newest key put ys)
with_newest_left [] [] key now put left is = (refl, is, tt)
with_newest_left [] (y ∷ ys) key now put left is = absurd left
with_newest_left (x ∷ xs) [] key now put left is = absurd left
with_newest_left (x ∷ xs) (y ∷ ys) key now put left is = subst P left.0 (by_key (bytes_eq key x.key) (with_newest_left xs ys key now put left.2 is))
  where
    P : List ℕ → Type 0
    P k = AreLeft (with_newest key now (x ∷ xs)) (if bytes_eq key k then record { key = key; newest = put } ∷ ys else y ∷ with_newest key put ys)

    by_key : (same : Bool) → AreLeft (with_newest key now xs) (with_newest key put ys) → AreLeft (if same then record { key = key; newest = now } ∷ xs else x ∷ with_newest key now xs) (if same then record { key = key; newest = put } ∷ ys else y ∷ with_newest key put ys)
    by_key true rest = (refl, is, left.2)
    by_key false rest = (left.0, left.1, rest)

pub with_put_left : (xs ys : List KeyObject) (key bytes : List ℕ) → AreLeft xs ys → AreLeft (with_put key bytes xs) (with_put key bytes ys)
with_put_left xs ys key bytes left =
    with_newest_left xs ys key (after_put (newest_in xs key) bytes) (after_put (newest_in ys key) bytes) left
    (put_left (newest_in xs key) (newest_in ys key) bytes (found_left xs ys key left))

-- ---- losses

lost_left : (xs ys : List KeyObject) (key : List ℕ) (now : Newest) → newest_in xs key ≡ Some now → AreLeft xs ys → AreLeft (with_newest key (after_loss now) xs) ys
lost_left [] ys key now is left = cc
lost_left (x ∷ xs) [] key now is left = absurd left
lost_left (x ∷ xs) (y ∷ ys) key now is left = by_key (bytes_eq key x.key) refl is (λ found. lost_left xs ys key now found left.2)
  where
    gone : IsLeft (after_loss x.newest) y.newest
    gone = record { version = left.1.version; len = left.1.len; bytes = λ b none. cc }

    by_key : (same : Bool) → bytes_eq key x.key ≡ same → (if same then Some x.newest else newest_in xs key) ≡ Some now
        → (newest_in xs key ≡ Some now → AreLeft (with_newest key (after_loss now) xs) ys) → AreLeft (if same then record { key = key; newest = after_loss now } ∷ xs else x ∷ with_newest key (after_loss now) xs) (y ∷ ys)
    by_key true same found rest =
        let one : x.newest ≡ now = some_same x.newest now found in
        let here : key ≡ x.key = (bytes_eq-Decides key x.key).0 same in
        (here ∙ left.0, subst (λ (n : Newest). IsLeft (after_loss n) y.newest) one gone, left.2)
      where
        some_same : (m n : Newest) → Some m ≡ Some n → m ≡ n
        some_same m n h = cc
    by_key false differs found rest = (left.0, left.1, rest found)

with_loss_left : (xs ys : List KeyObject) (key : List ℕ) → AreLeft xs ys → AreLeft (with_loss key xs) ys
with_loss_left xs ys key left = by_found (newest_in xs key) refl
  where
    by_found : (found : Option Newest) → newest_in xs key ≡ found → AreLeft (with_loss_of found key xs) ys
    by_found None is = left
    by_found (Some now) is = lost_left xs ys key now is left

-- ---- journals

act_left : (origins : Instance → List ℕ) (o : List ℕ) (ok : Bool) (a : Act) (xs ys : List KeyObject) → AreLeft xs ys → AreLeft (objects_by origins o ok a xs) (put_by origins o ok a ys)
act_left origins o ok (Put who key bytes) xs ys left = by_test (ok && bytes_eq (origins who) o)
  where
    by_test : (counts : Bool) → AreLeft (if counts then with_put key bytes xs else xs) (if counts then with_put key bytes ys else ys)
    by_test true = with_put_left xs ys key bytes left
    by_test false = left
act_left origins o ok (StoreLose origin key version) xs ys left = by_test (ok && bytes_eq origin o)
  where
    by_test : (counts : Bool) → AreLeft (if counts then with_loss key xs else xs) ys
    by_test true = with_loss_left xs ys key left
    by_test false = left
act_left origins o ok other xs ys left = left

pub objects_left : (H : HostTable) (J : Journal) (o : List ℕ) → AreLeft (objects_of H J o) (puts_of H J o)
unfolding objects_of puts_of
objects_left H [] o = tt
objects_left H (e ∷ J) o = act_left (origin_of H J) o (is_accepted e) e.act (objects_of H J o) (puts_of H J o) (objects_left H J o)

-- ---- the answer to a put

stored-cons : (x : KeyObject) (xs : List KeyObject) → stored_bytes (x ∷ xs) ≡ length x.key + x.newest.len + stored_bytes xs
stored-cons x xs = sum_by-cons (λ (o : KeyObject). length o.key + o.newest.len) x xs

bytes_same : (xs ys : List KeyObject) → AreLeft xs ys → stored_bytes xs ≡ stored_bytes ys
bytes_same [] [] left = refl
bytes_same [] (y ∷ ys) left = absurd left
bytes_same (x ∷ xs) [] left = absurd left
bytes_same (x ∷ xs) (y ∷ ys) left =
    stored-cons x xs
    ∙ ap (λ (k : List ℕ). length k + x.newest.len + stored_bytes xs) left.0
    ∙ ap (λ n. length y.key + n + stored_bytes xs) left.1.len
    ∙ ap (λ n. length y.key + y.newest.len + n) (bytes_same xs ys left.2)
    ∙ sym (stored-cons y ys)

over_same : (xs ys : List KeyObject) → AreLeft xs ys → is_over xs ≡ is_over ys
unfolding is_over
over_same xs ys left = ap (λ n. nat_lt 65536 n) (bytes_same xs ys left)

quota_same : (key bytes : List ℕ) (xs ys : List KeyObject) → AreLeft xs ys → quota_answer key bytes xs ≡ quota_answer key bytes ys
unfolding quota_answer
quota_same key bytes xs ys left =
    ap (λ over. given over (version_of (newest_in xs key))) (over_same (with_put key bytes xs) (with_put key bytes ys) (with_put_left xs ys key bytes left))
    ∙ ap (λ v. given (is_over (with_put key bytes ys)) v) (version_same (newest_in xs key) (newest_in ys key) (found_left xs ys key left))
  where
    given : Bool → ℕ → Result ℕ Rule
    given over version = if over then Err S3 else Ok (version + 1)

pub put_answer_same : (key bytes : List ℕ) (xs ys : List KeyObject) → AreLeft xs ys → put_answer key bytes xs ≡ put_answer key bytes ys
unfolding put_answer
put_answer_same key bytes xs ys left = ap (λ r. given r) (quota_same key bytes xs ys left)
  where
    given : Result ℕ Rule → Result ℕ Rule
    given quota = if not (is_key key) then Err S1 else if nat_lt 2048 (length bytes) then Err S2 else quota
