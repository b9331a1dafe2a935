-- What a put and a loss make of the table of an origin.
use Rattle.std.proofs.Common.{◌≡◌, ℕ, ◌+◌, ◌-◌, ◌≤◌, List, true, false, refl, sym, ◌∙◌, ap, length, arith, Option, Some, None, Result, Ok, Err}
use Rattle.std.specs.Prelude.{bytes_eq, nat_lt, OnOk, OnErr}
use Rattle.std.specs.Global.{Vec}
use Rattle.std.specs.Map.{lookup, set_value}
use Rattle.indexmap.specs.IndexMap.{insert_entry}
use Rattle.ibos_kinds.specs.declared.rule.Rule.{Rule}
use Rattle.ibos_kinds.specs.declared.rule.Rule.TheVariants.{S3}
use Rattle.ibos_kinds.specs.Objects.{Newest, KeyObject, newest_in, version_of, after_put, after_loss, with_newest, with_put, with_loss, with_loss_of, stored_bytes, is_over}
use Rattle.ibos_kinds.specs.Labels.{quota_answer}
use Rattle.ibos_store.specs.Stores.{key_objects}
use Rattle.ibos_store.proofs.Sums.{with-same, counts_held, sum_new, stored_within, over_by}
use Rattle.ibos_store.proofs.Finding.{newest_found, objects_set, objects_inserted}

-- a fact that holds after Ok, or after Err, gives another
pub then_ok : {A E : Type 0} (r : Result A E) {P Q : Type 0} → (P → Q) → OnOk r P → OnOk r Q
then_ok (Ok x) f p = f p
then_ok (Err e) f p = tt

pub then_err : {A E : Type 0} (r : Result A E) {P Q : Type 0} → (P → Q) → OnErr r P → OnErr r Q
then_err (Ok x) f p = tt
then_err (Err e) f p = f p

pub on_err : {A E : Type 0} (r : Result A E) (P : Type 0) → P → OnErr r P
on_err (Ok x) P p = tt
on_err (Err e) P p = p

pub quota_refused : (key bytes : List ℕ) (objects : List KeyObject) → is_over (with_put key bytes objects) ≡ true → quota_answer key bytes objects ≡ Err S3
unfolding quota_answer
quota_refused key bytes objects over = rw over refl

pub quota_allowed : (key bytes : List ℕ) (objects : List KeyObject) (version : ℕ) → is_over (with_put key bytes objects) ≡ false → version ≡ version_of (newest_in objects key) + 1
    → quota_answer key bytes objects ≡ Ok version
unfolding quota_answer
quota_allowed key bytes objects version within is = let F : ℕ → Result ℕ Rule = λ v. Ok v in rw within (ap F (sym is))

-- a key that was found, and what was written there
module _ (key : List ℕ) (held : Newest) (entries : List (Vec ℕ × Newest)) (objects : List KeyObject) (found : Some held ≡ lookup (λ k. bytes_eq key k.items) entries)
    (seen : key_objects entries ≡ objects) where
  pub is_held : newest_in objects key ≡ Some held
  is_held = newest_found key entries objects (Some held) found seen

  put_newest : (bytes : List ℕ) → with_put key bytes objects ≡ with_newest key (after_put (Some held) bytes) objects
  put_newest bytes = ap (λ (x : Option Newest). with_newest key (after_put x bytes) objects) is_held

  pub put_version : version_of (newest_in objects key) ≡ held.version
  put_version = ap version_of is_held

  pub put_set : (bytes : List ℕ) (newest : Newest) (after : List (Vec ℕ × Newest)) → after ≡ set_value (λ k. bytes_eq key k.items) entries newest → newest ≡ after_put (Some held) bytes
      → key_objects after ≡ with_put key bytes objects
  put_set bytes newest after written is =
      objects_set key newest held entries after objects found written seen ∙ ap (λ (n : Newest). with_newest key n objects) is ∙ sym (put_newest bytes)

  pub same_set : (newest : Newest) (after : List (Vec ℕ × Newest)) → after ≡ set_value (λ k. bytes_eq key k.items) entries newest → newest ≡ held → key_objects after ≡ objects
  same_set newest after written is =
      objects_set key newest held entries after objects found written seen ∙ ap (λ (n : Newest). with_newest key n objects) is ∙ with-same key held objects is_held

  module _ (count len : ℕ) (counted : count ≡ stored_bytes (key_objects entries)) (within : is_over (key_objects entries) ≡ false) (held_len : len ≡ held.len) where
    pub len_within : len ≤ count
    len_within = let counts = counts_held key held held objects is_held in let sum = ap stored_bytes seen in omega (arith, counts.within, counted, held_len, sum)

    pub count_within : count ≤ 65536
    count_within = let bound = stored_within (key_objects entries) within in omega (arith, bound, counted)

    pub put_sum : (bytes : List ℕ) → count - len + length bytes ≡ stored_bytes (with_put key bytes objects)
    put_sum bytes =
        let counts = counts_held key (after_put (Some held) bytes) held objects is_held in
        let sum = ap stored_bytes seen in
        let put : stored_bytes (with_put key bytes objects) ≡ stored_bytes (with_newest key (after_put (Some held) bytes) objects) = ap stored_bytes (put_newest bytes) in
        omega (arith, counts.sum, counts.within, counted, held_len, sum, put)

    pub put_over : (bytes : List ℕ) → nat_lt 65536 (count - len + 0 + length bytes) ≡ is_over (with_put key bytes objects)
    put_over bytes = let sum = put_sum bytes in over_by (with_put key bytes objects) (count - len + 0 + length bytes) (omega (arith, sum))

    pub same_kept : (newest : Newest) (after : List (Vec ℕ × Newest)) → after ≡ set_value (λ k. bytes_eq key k.items) entries newest → newest ≡ held
        → (count ≡ stored_bytes (key_objects after)) × (is_over (key_objects after) ≡ false)
    same_kept newest after written is =
        let same : key_objects after ≡ key_objects entries = same_set newest after written is ∙ sym seen in
        (counted ∙ ap stored_bytes (sym same), ap is_over same ∙ within)

    pub put_kept : (bytes : List ℕ) (newest : Newest) (after : List (Vec ℕ × Newest)) → after ≡ set_value (λ k. bytes_eq key k.items) entries newest → newest ≡ after_put (Some held) bytes
        → nat_lt 65536 (count - len + 0 + length bytes) ≡ false → (count - len + length bytes ≡ stored_bytes (key_objects after)) × (is_over (key_objects after) ≡ false)
    put_kept bytes newest after written is fits =
        let puts = put_set bytes newest after written is in
        (put_sum bytes ∙ ap stored_bytes (sym puts), ap is_over puts ∙ sym (put_over bytes) ∙ fits)

  -- ---- a loss
  lost_len : (result : Result Unit Rule) (newest : Newest) → OnOk result (newest ≡ after_loss held) → OnErr result (newest ≡ held) → newest.len ≡ held.len
  lost_len (Ok done) newest ok err = ap (λ (n : Newest). n.len) ok
  lost_len (Err rule) newest ok err = ap (λ (n : Newest). n.len) err

  pub lost_kept : (count : ℕ) (result : Result Unit Rule) (newest : Newest) (after : List (Vec ℕ × Newest)) → count ≡ stored_bytes (key_objects entries) → is_over (key_objects entries) ≡ false
      → after ≡ set_value (λ k. bytes_eq key k.items) entries newest → OnOk result (newest ≡ after_loss held) → OnErr result (newest ≡ held)
      → (count ≡ stored_bytes (key_objects after)) × (is_over (key_objects after) ≡ false)
  lost_kept count result newest after counted within written ok err =
      let len = lost_len result newest ok err in
      let counts = counts_held key newest held objects is_held in
      let sum = ap stored_bytes seen in
      let now : key_objects after ≡ with_newest key newest objects = objects_set key newest held entries after objects found written seen in
      let same : stored_bytes (key_objects entries) ≡ stored_bytes (key_objects after) = omega (arith, counts.sum, len, sum, ap stored_bytes now) in
      (counted ∙ same, sym (over_by (key_objects after) (stored_bytes (key_objects entries)) same) ∙ over_by (key_objects entries) (stored_bytes (key_objects entries)) refl ∙ within)

  pub lost_set : (newest : Newest) (after : List (Vec ℕ × Newest)) → after ≡ set_value (λ k. bytes_eq key k.items) entries newest → newest ≡ after_loss held → key_objects after ≡ with_loss key objects
  lost_set newest after written is =
      objects_set key newest held entries after objects found written seen ∙ ap (λ (n : Newest). with_newest key n objects) is ∙ sym (ap (λ (x : Option Newest). with_loss_of x key objects) is_held)

-- a key that wasn't found
module _ (key bytes : List ℕ) (entries : List (Vec ℕ × Newest)) (objects : List KeyObject) (count : ℕ) (absent : None ≡ lookup (λ k. bytes_eq key k.items) entries)
    (counted : count ≡ stored_bytes (key_objects entries)) (within : is_over (key_objects entries) ≡ false) (seen : key_objects entries ≡ objects) where
  not_held : newest_in objects key ≡ None
  not_held = newest_found key entries objects None absent seen

  new_newest : with_put key bytes objects ≡ with_newest key (after_put None bytes) objects
  new_newest = ap (λ (x : Option Newest). with_newest key (after_put x bytes) objects) not_held

  pub new_version : 1 ≡ version_of (newest_in objects key) + 1
  new_version = sym (ap (λ (x : Option Newest). version_of x + 1) not_held)

  pub new_within : count ≤ 65536
  new_within = let bound = stored_within (key_objects entries) within in omega (arith, bound, counted)

  new_sum : count + (length key + length bytes) ≡ stored_bytes (with_put key bytes objects)
  new_sum =
      let sum = sum_new key (after_put None bytes) objects not_held in
      let put : stored_bytes (with_put key bytes objects) ≡ stored_bytes (with_newest key (after_put None bytes) objects) = ap stored_bytes new_newest in
      let same = ap stored_bytes seen in
      omega (arith, sum, put, same, counted)

  pub new_over : nat_lt 65536 (count + length key + length bytes) ≡ is_over (with_put key bytes objects)
  new_over = let sum = new_sum in over_by (with_put key bytes objects) (count + length key + length bytes) (omega (arith, sum))

  pub new_set : (newest : Newest) (name : Vec ℕ) (base after : List (Vec ℕ × Newest)) → base ≡ entries → after ≡ insert_entry (λ (a b : Vec ℕ). bytes_eq a.items b.items) base name newest
      → name.items ≡ key → newest ≡ after_put None bytes → key_objects after ≡ with_put key bytes objects
  new_set newest name base after same written named is =
      objects_inserted key newest name base entries after objects same written named seen ∙ ap (λ (n : Newest). with_newest key n objects) is ∙ sym new_newest

  pub new_kept : (newest : Newest) (name : Vec ℕ) (base after : List (Vec ℕ × Newest)) → base ≡ entries → after ≡ insert_entry (λ (a b : Vec ℕ). bytes_eq a.items b.items) base name newest
      → name.items ≡ key → newest ≡ after_put None bytes → nat_lt 65536 (count + length key + length bytes) ≡ false
      → (count + (length key + length bytes) ≡ stored_bytes (key_objects after)) × (is_over (key_objects after) ≡ false)
  new_kept newest name base after same written named is fits =
      let puts = new_set newest name base after same written named is in
      (new_sum ∙ ap stored_bytes (sym puts), ap is_over puts ∙ sym new_over ∙ fits)
