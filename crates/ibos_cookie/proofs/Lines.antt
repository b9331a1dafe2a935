-- What a set does to the table and the text of a jar.
use Rattle.std.proofs.Common.{◌≡◌, ℕ, zero, suc, ◌+◌, ◌-◌, ◌*◌, ◌≤◌, ◌<◌, List, [], ◌∷◌, ◌++◌, Bool, true, false, refl, sym, ◌∙◌, ap, subst, length, take, drop, arith, cond, position, ◌^◌, length-append, append_assoc, Some, None}
use Rattle.std.specs.Prelude.{bytes_eq, codes, nat_lt, ◌||◌}
use Rattle.std.specs.List.{position_or_len}
use Rattle.std.specs.Global.{Vec}
use Rattle.std.specs.Map.{lookup, keys_of}
use Rattle.std.proofs.lemmas.List.{length-drop, length-take-le}
use Rattle.std.proofs.Math.Seq.{drop-append_seam, drop-append-add, take-append_seam, take-append-add}
use Rattle.std.proofs.lemmas.Bool.Decides.{nat_tests}
use Rattle.std.proofs.lemmas.Slice.Eq.{bytes_eq-Decides}
use Rattle.std.proofs.lemmas.List.Sums.{sum_by-cons}
use Rattle.indexmap.specs.IndexMap.{insert_entry, set_value_at}
use Rattle.ibos_kinds.specs.declared.cookies.Cookie.{Cookie}
use Rattle.ibos_kinds.specs.Cookies.{put, jar_bytes, is_over, jar_text, pair_text}
use Rattle.ibos_cookie.specs.Lines.{front, lines, table_len, value_at, cookies_in, AreMeasured, IsJar}

same_names : (xs ys : List ℕ) → bytes_eq xs ys ≡ true → xs ≡ ys
same_names xs ys h = (bytes_eq-Decides xs ys).0 h

-- ---- one line

length-front : (name : List ℕ) → length (front name) ≡ length name + 3
unfolding front
length-front name = omega (arith, length-append (codes "; " ++ name) (codes "="), length-append (codes "; ") name)

length-line : (c : Cookie) → length (front c.name ++ c.value) ≡ length c.name + 3 + length c.value
length-line c = omega (arith, length-append (front c.name) c.value, length-front c.name)

-- a value stands behind what is in front of it
value_of_line : (c : Cookie) (rest : List ℕ) (at len : ℕ) → at ≡ length c.name + 3 → len ≡ length c.value
    → take len (drop at ((front c.name ++ c.value) ++ rest)) ≡ c.value
value_of_line c rest at len is long =
    ap (λ t. take len (drop at t)) (append_assoc (front c.name) c.value rest)
    ∙ ap (λ n. take len (drop n (front c.name ++ (c.value ++ rest)))) (is ∙ sym (length-front c.name))
    ∙ ap (take len) (drop-append_seam (front c.name) (c.value ++ rest))
    ∙ ap (λ n. take n (c.value ++ rest)) long
    ∙ take-append_seam c.value rest

rest_of_line : (c : Cookie) (rest : List ℕ) (at : ℕ) → at ≡ length c.name + 3 + length c.value → drop at ((front c.name ++ c.value) ++ rest) ≡ rest
rest_of_line c rest at is = ap (λ n. drop n ((front c.name ++ c.value) ++ rest)) (is ∙ sym (length-line c)) ∙ drop-append_seam (front c.name ++ c.value) rest

-- ---- a jar's cookies are those of its table and text

found_cookies : (entries : List (Vec ℕ × ℕ)) (cookies : List Cookie) → AreMeasured entries cookies → cookies_in entries (lines cookies) ≡ cookies
found_cookies [] [] are = refl
found_cookies [] (c ∷ cs) are = elim are [ ]
found_cookies (e ∷ es) [] are = elim are [ ]
found_cookies (e ∷ es) (c ∷ cs) are =
    let named = ap (λ (n : List ℕ). length n + 3) are.0 in
    let value = value_of_line c (lines cs) (length e.0.items + 3) e.1 named are.1 in
    let rest = rest_of_line c (lines cs) (length e.0.items + 3 + e.1) (omega (arith, named, are.1)) in
    let more : cookies_in es (drop (length e.0.items + 3 + e.1) ((front c.name ++ c.value) ++ lines cs)) ≡ cs = ap (cookies_in es) rest ∙ found_cookies es cs are.2 in
    λ i. record { name = are.0 i; value = value i } ∷ more i

pub jar_is : (entries : List (Vec ℕ × ℕ)) (text : List ℕ) (cookies : List Cookie) → IsJar entries text cookies → cookies_in entries text ≡ cookies
jar_is entries text cookies is = ap (cookies_in entries) is.text_is ∙ found_cookies entries cookies is.measured

pub is_jar : (entries : List (Vec ℕ × ℕ)) (text : List ℕ) (cookies : List Cookie) → IsJar entries text cookies → IsJar entries text (cookies_in entries text)
is_jar entries text cookies is =
    let P : List Cookie → Type 0 = IsJar entries text in
    subst P (sym (jar_is entries text cookies is)) is

-- ---- sizes

pub measured_count : (entries : List (Vec ℕ × ℕ)) (cookies : List Cookie) → AreMeasured entries cookies → length cookies ≡ length entries
measured_count [] [] are = refl
measured_count [] (c ∷ cs) are = elim are [ ]
measured_count (e ∷ es) [] are = elim are [ ]
measured_count (e ∷ es) (c ∷ cs) are = ap suc (measured_count es cs are.2)

pub measured_len : (entries : List (Vec ℕ × ℕ)) (cookies : List Cookie) → AreMeasured entries cookies → length (lines cookies) ≡ table_len entries
measured_len [] [] are = refl
measured_len [] (c ∷ cs) are = elim are [ ]
measured_len (e ∷ es) [] are = elim are [ ]
measured_len (e ∷ es) (c ∷ cs) are =
    omega (arith, length-append (front c.name ++ c.value) (lines cs), length-line c, ap (λ (n : List ℕ). length n) are.0, are.1, measured_len es cs are.2)

jar_bytes-cons : (c : Cookie) (cookies : List Cookie) → jar_bytes (c ∷ cookies) ≡ length c.name + length c.value + jar_bytes cookies
jar_bytes-cons c cookies = sum_by-cons (λ (x : Cookie). length x.name + length x.value) c cookies

pub lines_len : (cookies : List Cookie) → length (lines cookies) ≡ jar_bytes cookies + 3 * length cookies
lines_len [] = refl
lines_len (c ∷ cs) = omega (arith, length-append (front c.name ++ c.value) (lines cs), length-line c, jar_bytes-cons c cs, lines_len cs)

-- ---- where a name stands

-- the i-th entry is the first with the name, and its value is that long
abbrev pub IsAt : List ℕ → ℕ → List (Vec ℕ × ℕ) → ℕ → Type 0
IsAt name len [] i = ⊥
IsAt name len (e ∷ es) zero = (bytes_eq name e.0.items ≡ true) × (e.1 ≡ len)
IsAt name len (e ∷ es) (suc i) = (bytes_eq name e.0.items ≡ false) × IsAt name len es i

some_is : (m n : ℕ) → Some m ≡ Some n → m ≡ n
some_is m n h = cc

at_position : (name : List ℕ) (len : ℕ) (entries : List (Vec ℕ × ℕ)) → lookup (λ key. bytes_eq name key.items) entries ≡ Some len
    → IsAt name len entries (position_or_len (λ (key : Vec ℕ). bytes_eq name key.items) (keys_of entries))
at_position name len [] found = cc
at_position name len (e ∷ es) found = by_test (bytes_eq name e.0.items) refl (at_position name len es)
  where
    by_test : (here : Bool) → bytes_eq name e.0.items ≡ here
        → (lookup (λ (key : Vec ℕ). bytes_eq name key.items) es ≡ Some len → IsAt name len es (position_or_len (λ (key : Vec ℕ). bytes_eq name key.items) (keys_of es)))
        → IsAt name len (e ∷ es) (position_or_len (λ (key : Vec ℕ). bytes_eq name key.items) (keys_of (e ∷ es)))
    by_test true is rest = rw is (is, some_is e.1 len (rw is at found))
    by_test false is rest =
        let next : 1 + position_or_len (λ (key : Vec ℕ). bytes_eq name key.items) (keys_of es) ≡ suc (position_or_len (λ (key : Vec ℕ). bytes_eq name key.items) (keys_of es)) = omega arith in
        let P : ℕ → Type 0 = IsAt name len (e ∷ es) in
        rw is (subst P (sym next) (is, rest (rw is at found)))

-- ---- a value in place of another

pub value_within : (name : List ℕ) (len : ℕ) (entries : List (Vec ℕ × ℕ)) (i : ℕ) → IsAt name len entries i → value_at entries i + len ≤ table_len entries
value_within name len [] i at = absurd at
value_within name len (e ∷ es) zero at = omega (arith, at.1)
value_within name len (e ∷ es) (suc i) at = omega (arith, value_within name len es i at.1)

pub index_within : (name : List ℕ) (len : ℕ) (entries : List (Vec ℕ × ℕ)) (i : ℕ) → IsAt name len entries i → i < length entries
index_within name len [] i at = absurd at
index_within name len (e ∷ es) zero at = omega arith
index_within name len (e ∷ es) (suc i) at = omega (arith, index_within name len es i at.1)

-- what a set of a name that is there makes of the table and the text
record Replaces (name value : List ℕ) (len : ℕ) (entries : List (Vec ℕ × ℕ)) (cookies : List Cookie) (i : ℕ) : Type 0 where
  measured : AreMeasured (set_value_at entries i (length value)) (put (record { name = name; value = value }) cookies)
  text : take (value_at entries i) (lines cookies) ++ value ++ drop (value_at entries i + len) (lines cookies) ≡ lines (put (record { name = name; value = value }) cookies)
  count : length (put (record { name = name; value = value }) cookies) ≡ length cookies

-- the same in the text behind a cookie
behind : (line value rest : List ℕ) (at len : ℕ) → take (length line + at) (line ++ rest) ++ value ++ drop (length line + at + len) (line ++ rest) ≡ line ++ (take at rest ++ value ++ drop (at + len) rest)
behind line value rest at len =
    let sum : length line + at + len ≡ length line + (at + len) = omega arith in
    ap (λ n. take (length line + at) (line ++ rest) ++ value ++ drop n (line ++ rest)) sum
    ∙ ap (λ t. take (length line + at) (line ++ rest) ++ value ++ t) (drop-append-add line rest (at + len))
    ∙ ap (λ t. t ++ value ++ drop (at + len) rest) (take-append-add line rest at)
    ∙ ap (λ t. t ++ drop (at + len) rest) (append_assoc line (take at rest) value)
    ∙ append_assoc line (take at rest ++ value) (drop (at + len) rest)

replaces : (name value : List ℕ) (len : ℕ) (entries : List (Vec ℕ × ℕ)) (cookies : List Cookie) (i : ℕ) → AreMeasured entries cookies → IsAt name len entries i → Replaces name value len entries cookies i
replaces name value len [] cookies i are at = absurd at
replaces name value len (e ∷ es) [] i are at = elim are [ ]
replaces name value len (e ∷ es) (c ∷ cs) zero are at =
    let set : Cookie = record { name = name; value = value } in
    let own : name ≡ c.name = same_names name e.0.items at.0 ∙ are.0 in
    let here : bytes_eq name c.name ≡ true = ap (bytes_eq name) (sym are.0) ∙ at.0 in
    let start : length e.0.items + 3 ≡ length (front c.name) = ap (λ (n : List ℕ). length n + 3) are.0 ∙ sym (length-front c.name) in
    let end : length e.0.items + 3 + len ≡ length c.name + 3 + length c.value = omega (arith, ap (λ (n : List ℕ). length n) are.0, are.1, at.1) in
    let before : take (length e.0.items + 3) ((front c.name ++ c.value) ++ lines cs) ≡ front name =
    ap (take (length e.0.items + 3)) (append_assoc (front c.name) c.value (lines cs))
    ∙ ap (λ n. take n (front c.name ++ (c.value ++ lines cs))) start
    ∙ take-append_seam (front c.name) (c.value ++ lines cs) ∙ ap front (sym own) in
    let after : drop (length e.0.items + 3 + len) ((front c.name ++ c.value) ++ lines cs) ≡ lines cs = rest_of_line c (lines cs) _ end in
    record {
      measured = rw here (sym (same_names name e.0.items at.0), refl, are.2);
      text = rw here (ap (λ t. t ++ value ++ drop (length e.0.items + 3 + len) ((front c.name ++ c.value) ++ lines cs)) before ∙ ap (λ t. front name ++ value ++ t) after);
      count = rw here refl;
    }
replaces name value len (e ∷ es) (c ∷ cs) (suc i) are at =
    let more = replaces name value len es cs i are.2 at.1 in
    let there : bytes_eq name c.name ≡ false = ap (bytes_eq name) (sym are.0) ∙ at.0 in
    let line : length e.0.items + 3 + e.1 ≡ length (front c.name ++ c.value) = omega (arith, ap (λ (n : List ℕ). length n) are.0, are.1, length-line c) in
    let shift = ap (λ n. take (n + value_at es i) ((front c.name ++ c.value) ++ lines cs) ++ value ++ drop (n + value_at es i + len) ((front c.name ++ c.value) ++ lines cs)) line in
    record {
      measured = rw there (are.0, are.1, more.measured);
      text = rw there (shift ∙ behind (front c.name ++ c.value) value (lines cs) (value_at es i) len ∙ ap (λ t. (front c.name ++ c.value) ++ t) more.text);
      count = rw there (ap suc more.count);
    }

-- ---- one cookie more

-- a set of a name that is not there
record Grows (name value : List ℕ) (cookies : List Cookie) : Type 0 where
  text : lines cookies ++ front name ++ value ≡ lines (put (record { name = name; value = value }) cookies)
  count : length (put (record { name = name; value = value }) cookies) ≡ length cookies + 1

some_none : (n : ℕ) → Some n ≡ None → ⊥
some_none n h = cc

append_nil : (xs : List ℕ) → xs ++ [] ≡ xs
append_nil [] = refl
append_nil (x ∷ xs) = ap (λ t. x ∷ t) (append_nil xs)

grows : (name value : List ℕ) (entries : List (Vec ℕ × ℕ)) (cookies : List Cookie) → AreMeasured entries cookies
    → lookup (λ (key : Vec ℕ). bytes_eq name key.items) entries ≡ None → Grows name value cookies
grows name value [] [] are absent = record { text = sym (append_nil (front name ++ value)); count = refl }
grows name value [] (c ∷ cs) are absent = elim are [ ]
grows name value (e ∷ es) [] are absent = elim are [ ]
grows name value (e ∷ es) (c ∷ cs) are absent = by_test (bytes_eq name e.0.items) refl (grows name value es cs are.2)
  where
    by_test : (here : Bool) → bytes_eq name e.0.items ≡ here → (lookup (λ (key : Vec ℕ). bytes_eq name key.items) es ≡ None → Grows name value cs) → Grows name value (c ∷ cs)
    by_test true is rest = absurd (some_none e.1 (rw is at absent))
    by_test false is rest =
        let more = rest (rw is at absent) in
        let there : bytes_eq name c.name ≡ false = ap (bytes_eq name) (sym are.0) ∙ is in
        record {
          text = rw there (ap (λ t. t ++ value) (append_assoc (front c.name ++ c.value) (lines cs) (front name)) ∙ append_assoc (front c.name ++ c.value) (lines cs ++ front name) value ∙ ap (λ t. (front c.name ++ c.value) ++ t) more.text);
          count = rw there (omega (arith, more.count));
        }

grown : (name value : List ℕ) (key : Vec ℕ) (entries : List (Vec ℕ × ℕ)) (cookies : List Cookie) → key.items ≡ name → AreMeasured entries cookies
    → lookup (λ (key : Vec ℕ). bytes_eq name key.items) entries ≡ None
    → AreMeasured (insert_entry (λ (a b : Vec ℕ). bytes_eq a.items b.items) entries key (length value)) (put (record { name = name; value = value }) cookies)
grown name value key [] [] named are absent = (named, refl, tt)
grown name value key [] (c ∷ cs) named are absent = elim are [ ]
grown name value key (e ∷ es) [] named are absent = elim are [ ]
grown name value key (e ∷ es) (c ∷ cs) named are absent = by_test (bytes_eq name e.0.items) refl (grown name value key es cs named are.2)
  where
    by_test : (here : Bool) → bytes_eq name e.0.items ≡ here
        → (lookup (λ (key : Vec ℕ). bytes_eq name key.items) es ≡ None
        → AreMeasured (insert_entry (λ (a b : Vec ℕ). bytes_eq a.items b.items) es key (length value)) (put (record { name = name; value = value }) cs))
        → AreMeasured (insert_entry (λ (a b : Vec ℕ). bytes_eq a.items b.items) (e ∷ es) key (length value)) (put (record { name = name; value = value }) (c ∷ cs))
    by_test true is rest = absurd (some_none e.1 (rw is at absent))
    by_test false is rest =
        let there : bytes_eq name c.name ≡ false = ap (bytes_eq name) (sym are.0) ∙ is in
        let apart : bytes_eq key.items e.0.items ≡ false = ap (λ n. bytes_eq n e.0.items) named ∙ is in
        rw (there, apart) (are.0, are.1, rest (rw is at absent))

-- ---- limits

pub bytes_within : (cookies : List Cookie) → is_over cookies ≡ false → jar_bytes cookies ≤ 4096
unfolding is_over
bytes_within cookies within = grind (arith, nat_tests)

pub count_within : (cookies : List Cookie) → is_over cookies ≡ false → length cookies ≤ 20
unfolding is_over
count_within cookies within = grind (arith, nat_tests)

pub none_within : is_over [] ≡ false
unfolding is_over
none_within = refl

over_by : (cookies : List Cookie) (count bytes : ℕ) → count ≡ length cookies → bytes ≡ jar_bytes cookies → (nat_lt 20 count || nat_lt 4096 bytes) ≡ is_over cookies
unfolding is_over
over_by cookies count bytes counted summed = rw (counted, summed) refl

-- ---- a set as the code says it

marks_within : (entries : List (Vec ℕ × ℕ)) → 3 * length entries ≤ table_len entries
marks_within [] = omega arith
marks_within (e ∷ es) = omega (arith, marks_within es)

len_within : (name : List ℕ) (len : ℕ) (entries : List (Vec ℕ × ℕ)) (i : ℕ) → IsAt name len entries i → len + 3 * length entries ≤ table_len entries
len_within name len [] i at = absurd at
len_within name len (e ∷ es) zero at = omega (arith, at.1, marks_within es)
len_within name len (e ∷ es) (suc i) at = omega (arith, len_within name len es i at.1)

pick_is : (within : Bool) (n i : ℕ) → Some i ≡ cond within (Some n) None → i ≡ n
pick_is true n i h = some_is i n h
pick_is false n i h = cc

pub found_at : (name : List ℕ) (len : ℕ) (entries : List (Vec ℕ × ℕ)) (i : ℕ) → Some i ≡ position (λ (key : Vec ℕ). bytes_eq name key.items) (keys_of entries)
    → Some len ≡ lookup (λ key. bytes_eq name key.items) entries → IsAt name len entries i
found_at name len entries i first found =
    let P : ℕ → Type 0 = IsAt name len entries in
    subst P (sym (pick_is _ _ i first)) (at_position name len entries (sym found))

-- what the sizes of a table and of a text say
pub record Sizes (entries : List (Vec ℕ × ℕ)) (jar : List Cookie) (count len : ℕ) : Type 0 where
  pub few : count ≤ 20
  pub marks : 3 * count ≤ len
  pub bytes : len - 3 * count ≡ jar_bytes jar
  pub within : len - 3 * count ≤ 4096
  pub table : table_len entries ≡ len
  pub small : table_len entries < 2 ^ 63

module _ (name value : List ℕ) (entries : List (Vec ℕ × ℕ)) (text : List ℕ) (jar : List Cookie) (is : IsJar entries text jar) where
  abbrev pub set : Cookie
  set = record { name = name; value = value }

  pub sizes : (count len : ℕ) → count ≡ length entries → len ≡ length text → Sizes entries jar count len
  sizes count len counted measured =
      let same = measured_count entries jar is.measured in
      let whole = measured_len entries jar is.measured in
      let lens = lines_len jar in
      let long = ap (λ (t : List ℕ). length t) is.text_is in
      let few = count_within jar is.within in
      let bytes = bytes_within jar is.within in
      record {
        few = omega (arith, counted, same, few);
        marks = omega (arith, counted, measured, same, lens, long);
        bytes = omega (arith, counted, measured, same, lens, long);
        within = omega (arith, counted, measured, same, lens, long, bytes);
        table = omega (arith, measured, whole, long);
        small = omega (arith, whole, lens, few, bytes);
      }

  -- a name that is there, and a text with the value in its place
  module _ (i len : ℕ) (at : IsAt name len entries i) where
    pub held_within : (count whole : ℕ) → count ≡ length entries → whole ≡ length text → len ≤ whole - 3 * count
    held_within count whole counted measured = omega (arith, counted, measured, len_within name len entries i at, measured_len entries jar is.measured, ap (λ (t : List ℕ). length t) is.text_is)

    pub place_within : value_at entries i + len ≤ length text
    place_within = omega (arith, value_within name len entries i at, measured_len entries jar is.measured, ap (λ (t : List ℕ). length t) is.text_is)

    bytes_held : jar_bytes (put set jar) + len ≡ jar_bytes jar + length value
    bytes_held =
        let more = replaces name value len entries jar i is.measured at in
        let place = value_at entries i in
        let all = lines jar in
        let place_fits : place ≤ length all = omega (arith, value_within name len entries i at, measured_len entries jar is.measured) in
        let sum : length (take place all ++ value ++ drop (place + len) all) + len ≡ length all + length value =
        omega (
          arith,
          length-append (take place all ++ value) (drop (place + len) all),
          length-append (take place all) value,
          length-take-le place all place_fits,
          length-drop (place + len) all,
          value_within name len entries i at,
          measured_len entries jar is.measured,
        ) in
        let same : length (take place all ++ value ++ drop (place + len) all) ≡ length (lines (put set jar)) = ap (λ (t : List ℕ). length t) more.text in
        let old : length all ≡ jar_bytes jar + 3 * length jar = lines_len jar in
        let new : length (lines (put set jar)) ≡ jar_bytes (put set jar) + 3 * length (put set jar) = lines_len (put set jar) in
        let count : length (put set jar) ≡ length jar = more.count in
        omega (arith, sum, same, old, new, count)

    pub over_held : (count whole : ℕ) → count ≡ length entries → whole ≡ length text → (nat_lt 20 count || nat_lt 4096 (whole - 3 * count - len + 0 + length value)) ≡ is_over (put set jar)
    over_held count whole counted measured =
        let size = sizes count whole counted measured in
        over_by (put set jar) count (whole - 3 * count - len + 0 + length value)
        (counted ∙ sym (measured_count entries jar is.measured) ∙ sym (replaces name value len entries jar i is.measured at).count)
        (omega (arith, size.bytes, bytes_held, held_within count whole counted measured))

    pub jar_held : (new : List ℕ) → new ≡ take (value_at entries i) text ++ value ++ drop (value_at entries i + len) text → is_over (put set jar) ≡ false
        → IsJar (set_value_at entries i (length value)) new (put set jar)
    jar_held new made within =
        let more = replaces name value len entries jar i is.measured at in
        record {
          measured = more.measured;
          text_is = made ∙ ap (λ t. take (value_at entries i) t ++ value ++ drop (value_at entries i + len) t) is.text_is ∙ more.text;
          within = within;
        }

  -- a new name, and a text with the cookie behind all others
  module _ (absent : lookup (λ (key : Vec ℕ). bytes_eq name key.items) entries ≡ None) where
    pub over_new : (count whole : ℕ) → count ≡ length entries → whole ≡ length text
        → (nat_lt 20 (count + 1) || nat_lt 4096 (whole - 3 * count + length name + length value)) ≡ is_over (put set jar)
    over_new count whole counted measured =
        let size = sizes count whole counted measured in
        let more = grows name value entries jar is.measured absent in
        over_by (put set jar) (count + 1) (whole - 3 * count + length name + length value)
        (omega (arith, counted, measured_count entries jar is.measured, more.count))
        (omega (
          arith,
          size.bytes,
          lines_len jar,
          lines_len (put set jar),
          more.count,
          ap (λ (t : List ℕ). length t) more.text,
          length-append (lines jar ++ front name) value,
          length-append (lines jar) (front name),
          length-front name,
        ))

    pub jar_new : (key : Vec ℕ) (new : List ℕ) → key.items ≡ name → new ≡ text ++ front name ++ value → is_over (put set jar) ≡ false
        → IsJar (insert_entry (λ (a b : Vec ℕ). bytes_eq a.items b.items) entries key (length value)) new (put set jar)
    jar_new key new named made within =
        record {
          measured = grown name value key entries jar named is.measured absent;
          text_is = made ∙ ap (λ t. t ++ front name ++ value) is.text_is ∙ (grows name value entries jar is.measured absent).text;
          within = within;
        }

-- ---- the text of a whole jar

two_marks : (c : Cookie) (cookies : List Cookie) → lines (c ∷ cookies) ≡ codes "; " ++ (pair_text c ++ lines cookies)
unfolding front
two_marks c cookies = refl

-- the text without the marks before its first cookie
pub pairs_text : (cookies : List Cookie) → drop 2 (lines cookies) ≡ jar_text cookies
unfolding jar_text
pairs_text [] = refl
pairs_text (c ∷ []) = ap (drop 2) (two_marks c []) ∙ append_nil (pair_text c)
pairs_text (c ∷ d ∷ cs) =
    ap (drop 2) (two_marks c (d ∷ cs))
    ∙ ap (λ t. pair_text c ++ t) (two_marks d cs ∙ ap (λ t. codes "; " ++ t) (ap (drop 2) (sym (two_marks d cs)) ∙ pairs_text (d ∷ cs)))
    ∙ sym (append_assoc (pair_text c) (codes "; ") (jar_text (d ∷ cs)))

-- a text without two marks is that of no cookies
pub no_text : (cookies : List Cookie) → length (lines cookies) < 2 → [] ≡ jar_text cookies
unfolding jar_text
no_text [] short = refl
no_text (c ∷ cs) short = absurd (omega (arith, short, length-append (front c.name ++ c.value) (lines cs), length-line c))
