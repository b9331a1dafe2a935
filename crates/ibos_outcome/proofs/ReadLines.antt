-- The lines of a text: heads and items of equal texts are equal, and what is read has the longest
-- front.
use Rattle.std.proofs.Common.{◌≡◌, ℕ, zero, suc, ◌+◌, ◌<◌, ◌≤◌, List, [], ◌∷◌, ◌++◌, true, length, take, drop, Some, None, refl, sym, ◌∙◌, ap, subst, append_assoc, arith, All, add-one}
use Rattle.std.specs.Prelude.{◌^◌, codes, decimal}
use Rattle.std.specs.List.{list_all}
use Rattle.std.proofs.Math.Seq.{take-append_seam, take-add, take-length}
use Rattle.std.proofs.lemmas.Fmt.{decimal_injective}
use Rattle.std.proofs.lemmas.List.{length-append, take-append-drop, append-nil, take_all, length-take-le}
use Rattle.std.proofs.lemmas.List.Concat.{flat_map-append}
use Rattle.std.proofs.lemmas.List.Elements.{All-append}
use Rattle.ibos_kinds.specs.declared.rule.Rule.{Rule}
use Rattle.ibos_kinds.specs.declared.outcome.Head.{Head}
use Rattle.ibos_kinds.specs.declared.outcome.Head.TheVariants.{Ok, Denied}
use Rattle.ibos_kinds.specs.declared.outcome.Item.{Item}
use Rattle.ibos_kinds.specs.declared.outcome.Outcome.{Outcome}
use Rattle.ibos_kinds.specs.Texts.{code_of, name_of}
use Rattle.ibos_fields.specs.Fields.{is_digit}
use Rattle.ibos_fields.specs.Printable.{is_printable}
use Rattle.ibos_fields.proofs.Words.{word_printable, spaced_printable}
use Rattle.std.proofs.lemmas.List.Folds.{list_all-append}
use Rattle.ibos_outcome.specs.Printed.{line_text, head_text, item_text, items_text, outcome_text}
use Rattle.ibos_outcome.specs.Canonical.{IsPrintable, IsCanonicalItem, IsCanonical, IsFront}
use Rattle.ibos_outcome.specs.Readings.{word_of, rest_of, head_in, item_in, said_of, HasItems}
use Rattle.ibos_outcome.proofs.FieldWords.{number_digits}
use Rattle.ibos_outcome.proofs.ReadWords.{Lacks, word_of-stop, rest_of-stop, cut_same, word_lacks, printable_lacks, digits_lack, digits_printable}
use Rattle.ibos_outcome.proofs.RuleTexts.{code_word, name_word, rule_read}
use Rattle.ibos_outcome.proofs.ReadItems.{item_tells}

-- ---- heads

denied_spelled : (rule : Rule) → head_text (Denied rule) ≡ codes "denied" ++ 32 ∷ (code_of rule ++ 32 ∷ name_of rule)
unfolding head_text
denied_spelled rule = simp append_assoc

head_spelled_read : (rule : Rule) → head_in (codes "denied" ++ 32 ∷ (code_of rule ++ 32 ∷ name_of rule)) ≡ Some (Denied rule)
unfolding head_in
head_spelled_read rule =
    rw (rest_of-stop 32 (codes "denied") (code_of rule ++ 32 ∷ name_of rule) refl, word_of-stop 32 (code_of rule) (name_of rule) (word_lacks _ (code_word rule)), rule_read rule) refl

pub head_read : (head : Head) → head_in (head_text head) ≡ Some head
unfolding head_in head_text
head_read Ok = refl
head_read (Denied rule) = ap head_in (denied_spelled rule) ∙ head_spelled_read rule

pub head_printable : (head : Head) → IsPrintable (head_text head)
unfolding head_text
head_printable Ok = refl
head_printable (Denied rule) =
    subst IsPrintable (sym (denied_spelled rule)) (spaced_printable (code_of rule) (name_of rule) (code_word rule) (word_printable _ (name_word rule)))

pub some_of : {A : Type 0} (x y : A) → Some x ≡ Some y → x ≡ y
some_of x y same = ap (λ s. from x s) same
  where
    from : {A : Type 0} → A → Rattle.std.proofs.Common.Option A → A
    from d (Some z) = z
    from d None = d

head_same : (head other : Head) → head_text head ≡ head_text other → head ≡ other
head_same head other same = some_of head other (sym (head_read head) ∙ ap head_in same ∙ head_read other)

item_same : (item other : Item) → IsCanonicalItem item → IsCanonicalItem other → item_text item ≡ item_text other → item ≡ other
item_same item other is too same = some_of item other (sym (item_tells item is).read ∙ ap item_in same ∙ (item_tells other too).read)

-- ---- lines

line_spelled : (digits said rest : List ℕ) → line_text digits said ++ rest ≡ digits ++ 32 ∷ (said ++ 10 ∷ rest)
unfolding line_text
line_spelled digits said rest = simp append_assoc

line_cut : (digits said rest : List ℕ) → line_text digits said ++ rest ≡ (digits ++ 32 ∷ said) ++ 10 ∷ rest
unfolding line_text
line_cut digits said rest = simp append_assoc

record AreLines (digits said : List ℕ) : Type 0 where
  digit : list_all is_digit digits ≡ true
  printable : IsPrintable said

line_lacks : (digits said : List ℕ) → AreLines digits said → Lacks 10 (digits ++ 32 ∷ said)
line_lacks digits said are =
    printable_lacks (digits ++ 32 ∷ said) (list_all-append is_printable digits (32 ∷ said) ∙ rw (digits_printable digits are.digit, are.printable) refl)

-- lines that begin a text are the same
line_same : (digits said rest other told more : List ℕ) → AreLines digits said → AreLines other told → line_text digits said ++ rest ≡ line_text other told ++ more
    → (digits ≡ other) × (said ≡ told) × (rest ≡ more)
line_same digits said rest other told more are too same =
    let cut = cut_same 10 (digits ++ 32 ∷ said) (other ++ 32 ∷ told) rest more (line_lacks digits said are) (line_lacks other told too) (sym (line_cut digits said rest) ∙ same ∙ line_cut other told more) in
    let words = cut_same 32 digits other said told (digits_lack digits are.digit) (digits_lack other too.digit) cut.0 in
    (words.0, words.1, cut.1)

-- what a line says is found behind its digits
drop_more : (digits said : List ℕ) → drop (suc (length digits)) (digits ++ 32 ∷ said) ≡ said
drop_more [] said = refl
drop_more (d ∷ digits) said = drop_more digits said

drop_said : (digits said : List ℕ) → drop (length digits + 1) (digits ++ 32 ∷ said) ≡ said
drop_said digits said = rw (add-one (length digits)) (drop_more digits said)

pub said_read : (digits said rest : List ℕ) → list_all is_digit digits ≡ true → IsPrintable said → said_of (length digits) (line_text digits said ++ rest) ≡ said
unfolding said_of
said_read digits said rest digit printable =
    let lacks = line_lacks digits said (record { digit = digit; printable = printable }) in
    ap (λ text. drop (length digits + 1) (word_of 10 text)) (line_cut digits said rest)
    ∙ ap (drop (length digits + 1)) (word_of-stop 10 (digits ++ 32 ∷ said) rest lacks)
    ∙ drop_said digits said

-- the head's line too
pub head_said : (digits said rest : List ℕ) → list_all is_digit digits ≡ true → IsPrintable said
    → (word_of 32 (word_of 10 (line_text digits said ++ rest)) ≡ digits) × (rest_of 32 (word_of 10 (line_text digits said ++ rest)) ≡ said)
head_said digits said rest digit printable =
    let lacks = line_lacks digits said (record { digit = digit; printable = printable }) in
    let first : word_of 10 (line_text digits said ++ rest) ≡ digits ++ 32 ∷ said = ap (word_of 10) (line_cut digits said rest) ∙ word_of-stop 10 (digits ++ 32 ∷ said) rest lacks in
    (ap (word_of 32) first ∙ word_of-stop 32 digits said (digits_lack digits digit), ap (rest_of 32) first ∙ rest_of-stop 32 digits said (digits_lack digits digit))

-- a front, and what follows it
pub front_rest : (front text : List ℕ) → IsFront front text → text ≡ front ++ drop (length front) text
front_rest front text is = sym (take-append-drop (length front) text) ∙ ap (λ t. t ++ drop (length front) text) is

pub front_of : (front rest : List ℕ) → IsFront front (front ++ rest)
front_of front rest = take-append_seam front rest

-- ---- items

abbrev first_of : (item : Item) (items : List Item) → All IsCanonicalItem (item ∷ items) → IsCanonicalItem item
first_of item items all = all 0 item (omega arith)

abbrev others_of : (item : Item) (items : List Item) → All IsCanonicalItem (item ∷ items) → All IsCanonicalItem items
others_of item items all = λ k d within. all (suc k) d (omega (arith, within))

item_line : (digits : List ℕ) (item : Item) → list_all is_digit digits ≡ true → IsCanonicalItem item → AreLines digits (item_text item)
item_line digits item digit is = record { digit = digit; printable = (item_tells item is).printable }

pub line_some : (digits said : List ℕ) → 0 < length (line_text digits said)
unfolding line_text
line_some digits said = omega (arith, length-append (digits ++ codes " " ++ said) (codes "\n"))

no_line : (digits said rest : List ℕ) → [] ≡ line_text digits said ++ rest → ⊥
no_line digits said rest same = omega (arith, ap length same, length-append (line_text digits said) rest, line_some digits said)

-- the lines of two lists of items that have one text
pub items_same : (digits : List ℕ) (items others : List Item) → list_all is_digit digits ≡ true → All IsCanonicalItem items → All IsCanonicalItem others → items_text digits items ≡ items_text digits others → items ≡ others
items_same digits [] [] digit all too same = refl
items_same digits [] (other ∷ others) digit all too same = absurd (no_line digits (item_text other) (items_text digits others) same)
items_same digits (item ∷ items) [] digit all too same = absurd (no_line digits (item_text item) (items_text digits items) (sym same))
items_same digits (item ∷ items) (other ∷ others) digit all too same =
    let first = first_of item items all in
    let second = first_of other others too in
    let parts = line_same digits (item_text item) (items_text digits items) digits (item_text other) (items_text digits others) (item_line digits item digit first) (item_line digits other digit second) same in
    rw (item_same item other first second parts.1, items_same digits items others digit (others_of item items all) (others_of other others too) parts.2) refl

-- no canonical line stands there
abbrev pub IsStuck : List ℕ → List ℕ → Type 0
IsStuck digits rest = (item : Item) → IsCanonicalItem item → IsFront (line_text digits (item_text item)) rest → ⊥

-- what is read until no line follows is the longest
items_longest : (digits : List ℕ) (items others : List Item) (rest more : List ℕ) → list_all is_digit digits ≡ true → All IsCanonicalItem items → All IsCanonicalItem others → IsStuck digits rest
    → items_text digits items ++ rest ≡ items_text digits others ++ more → length (items_text digits others) ≤ length (items_text digits items)
items_longest digits items [] rest more digit all too stuck same = omega arith
items_longest digits [] (other ∷ others) rest more digit all too stuck same =
    let line : rest ≡ line_text digits (item_text other) ++ (items_text digits others ++ more) = same ∙ append_assoc (line_text digits (item_text other)) (items_text digits others) more in
    absurd (stuck other (first_of other others too) (subst (IsFront (line_text digits (item_text other))) (sym line) (front_of (line_text digits (item_text other)) (items_text digits others ++ more))))
items_longest digits (item ∷ items) (other ∷ others) rest more digit all too stuck same =
    let first = first_of item items all in
    let second = first_of other others too in
    let parts = line_same digits (item_text item) (items_text digits items ++ rest) digits (item_text other) (items_text digits others ++ more) (item_line digits item digit first) (item_line digits other digit second)
    (sym (append_assoc (line_text digits (item_text item)) (items_text digits items) rest) ∙ same ∙ append_assoc (line_text digits (item_text other)) (items_text digits others) more) in
    let shorter = items_longest digits items others rest more digit (others_of item items all) (others_of other others too) stuck parts.2 in
    let equal : length (line_text digits (item_text item)) ≡ length (line_text digits (item_text other)) = ap (λ said. length (line_text digits said)) parts.1 in
    omega (arith, shorter, equal, length-append (line_text digits (item_text item)) (items_text digits items), length-append (line_text digits (item_text other)) (items_text digits others))

-- ---- outcomes

head_line : (n : ℕ) (head : Head) → n < 2 ^ 64 → AreLines (decimal n) (head_text head)
head_line n head small = record { digit = number_digits n small; printable = head_printable head }

pub outcome_same : (n m : ℕ) (outcome other : Outcome) → n < 2 ^ 64 → m < 2 ^ 64 → IsCanonical outcome → IsCanonical other → outcome_text n outcome ≡ outcome_text m other → (n ≡ m) × (outcome ≡ other)
unfolding outcome_text
outcome_same n m outcome other small below is too same =
    let parts = line_same (decimal n) (head_text outcome.head) (items_text (decimal n) outcome.items) (decimal m) (head_text other.head) (items_text (decimal m) other.items) (head_line n outcome.head small) (head_line m other.head below) same in
    let heads : outcome.head ≡ other.head = head_same outcome.head other.head parts.1 in
    let texts : items_text (decimal n) outcome.items ≡ items_text (decimal n) other.items = parts.2 ∙ ap (λ digits. items_text digits other.items) (sym parts.0) in
    let items : outcome.items ≡ other.items = items_same (decimal n) outcome.items other.items (number_digits n small) is too texts in
    let made : Head → List Item → Outcome = λ h i. record { head = h; items = i } in
    (decimal_injective n m small below parts.0, ap (λ h. made h outcome.items) heads ∙ ap (made other.head) items)

-- what begins with an outcome's text begins with the line of its head
pub front_head : (n : ℕ) (outcome : Outcome) (text : List ℕ) → IsFront (outcome_text n outcome) text → IsFront (line_text (decimal n) (head_text outcome.head)) text
unfolding outcome_text
front_head n outcome text is =
    let line : List ℕ = line_text (decimal n) (head_text outcome.head) in
    let whole : text ≡ line ++ (items_text (decimal n) outcome.items ++ drop (length (outcome_text n outcome)) text) = front_rest (outcome_text n outcome) text is ∙ append_assoc line (items_text (decimal n) outcome.items) _ in
    subst (IsFront line) (sym whole) (front_of line _)

pub outcome_longest : (text : List ℕ) (n : ℕ) (head : Head) (items : List Item) (len m : ℕ) (other : Outcome) → n < 2 ^ 64 → m < 2 ^ 64 → IsFront (line_text (decimal n) (head_text head)) text
    → HasItems (decimal n) (drop (length (line_text (decimal n) (head_text head))) text) items len → IsCanonical other → IsFront (outcome_text m other) text
    → length (outcome_text m other) ≤ length (line_text (decimal n) (head_text head)) + len
unfolding outcome_text
outcome_longest text n head items len m other small below is has canonical front =
    let line : List ℕ = line_text (decimal n) (head_text head) in
    let after : List ℕ = drop (length line) text in
    let rest : List ℕ = drop len after in
    let more : List ℕ = drop (length (outcome_text m other)) text in
    let lines : text ≡ line ++ after = front_rest line text is in
    let told : line_text (decimal m) (head_text other.head) ++ (items_text (decimal m) other.items ++ more) ≡ text = sym (front_rest (outcome_text m other) text front ∙ append_assoc (line_text (decimal m) (head_text other.head)) (items_text (decimal m) other.items) more) in
    let parts = line_same (decimal n) (head_text head) after (decimal m) (head_text other.head) (items_text (decimal m) other.items ++ more) (head_line n head small) (head_line m other.head below) (sym (told ∙ lines)) in
    let read : items_text (decimal n) items ++ rest ≡ after = ap (λ t. t ++ rest) has.told ∙ take-append-drop len after in
    let asked : after ≡ items_text (decimal n) other.items ++ more = parts.2 ∙ ap (λ digits. items_text digits other.items ++ more) (sym parts.0) in
    let shorter = items_longest (decimal n) items other.items rest more (number_digits n small) has.canonical canonical has.ends (read ∙ asked) in
    let counted : length (items_text (decimal n) items) ≡ len = ap length has.told ∙ length-take-le len after has.within in
    let same_line : length (line_text (decimal m) (head_text other.head)) ≡ length line = ap length (sym (ap (λ d. line_text d (head_text head)) parts.0 ∙ ap (line_text (decimal m)) parts.1)) in
    let same_items : length (items_text (decimal m) other.items) ≡ length (items_text (decimal n) other.items) = ap (λ digits. length (items_text digits other.items)) (sym parts.0) in
    omega (arith, shorter, counted, same_line, same_items, length-append (line_text (decimal m) (head_text other.head)) (items_text (decimal m) other.items))

-- ---- what the functions find

-- what begins with an item's line says that item
pub said_tells : (digits text : List ℕ) (item : Item) → list_all is_digit digits ≡ true → IsCanonicalItem item → IsFront (line_text digits (item_text item)) text → item_in (said_of (length digits) text) ≡ Some item
said_tells digits text item digit is front =
    ap (λ t. item_in (said_of (length digits) t)) (front_rest (line_text digits (item_text item)) text front)
    ∙ ap item_in (said_read digits (item_text item) _ digit (item_tells item is).printable) ∙ (item_tells item is).read

-- what begins with a head's line has that number and that head
pub head_words : (n : ℕ) (head : Head) (text : List ℕ) → n < 2 ^ 64 → IsFront (line_text (decimal n) (head_text head)) text
    → (word_of 32 (word_of 10 text) ≡ decimal n) × (head_in (rest_of 32 (word_of 10 text)) ≡ Some head)
head_words n head text small front =
    let whole = front_rest (line_text (decimal n) (head_text head)) text front in
    let words = head_said (decimal n) (head_text head) (drop (length (line_text (decimal n) (head_text head))) text) (number_digits n small) (head_printable head) in
    (ap (λ t. word_of 32 (word_of 10 t)) whole ∙ words.0, ap (λ t. head_in (rest_of 32 (word_of 10 t))) whole ∙ ap head_in words.1 ∙ head_read head)

pub front_fits : (line text : List ℕ) (len : ℕ) → len ≤ length text → IsFront line (drop len text) → len + length line ≤ length text
front_fits line text len within front =
    omega (arith, within, ap length (front_rest line (drop len text) front), length-append line (drop (length line) (drop len text)), ap length (take-append-drop len text), length-append (take len text) (drop len text), length-take-le len text within)

pub told_more : (digits line text : List ℕ) (items : List Item) (item : Item) (len : ℕ) → items_text digits items ≡ take len text → line ≡ line_text digits (item_text item) → IsFront line (drop len text)
    → items_text digits (items ++ item ∷ []) ≡ take (len + length line) text
told_more digits line text items item len told is front =
    flat_map-append (λ i. line_text digits (item_text i)) items (item ∷ [])
    ∙ ap (λ t. items_text digits items ++ t) (append-nil (line_text digits (item_text item)))
    ∙ ap (λ t. t ++ line_text digits (item_text item)) told
    ∙ ap (λ t. take len text ++ t) (sym is ∙ sym front)
    ∙ sym (take-add len (length line) text)

pub all_more : (items : List Item) (item : Item) → All IsCanonicalItem items → IsCanonicalItem item → All IsCanonicalItem (items ++ item ∷ [])
all_more items item all is = All-append IsCanonicalItem items (item ∷ []) all one
  where
    one : All IsCanonicalItem (item ∷ [])
    one zero d within = is
    one (suc k) d within = absurd (omega (arith, within))

pub outcome_told : (text : List ℕ) (n : ℕ) (head : Head) (items : List Item) (len : ℕ) → IsFront (line_text (decimal n) (head_text head)) text
    → HasItems (decimal n) (drop (length (line_text (decimal n) (head_text head))) text) items len
    → line_text (decimal n) (head_text head) ++ items_text (decimal n) items ≡ take (length (line_text (decimal n) (head_text head)) + len) text
outcome_told text n head items len front has =
    let line : List ℕ = line_text (decimal n) (head_text head) in
    ap (λ t. line ++ t) has.told ∙ ap (λ t. t ++ take len (drop (length line) text)) (sym front) ∙ sym (take-add (length line) len text)

-- a text that is an outcome's is read whole
pub outcome_back : (text : List ℕ) (n len m : ℕ) (outcome other : Outcome) → n < 2 ^ 64 → m < 2 ^ 64 → IsCanonical outcome → IsCanonical other → len ≤ length text → outcome_text n outcome ≡ take len text
    → length (outcome_text m other) ≤ len → text ≡ outcome_text m other → (n ≡ m) × (outcome ≡ other) × (len ≡ length text)
outcome_back text n len m outcome other small below is too within told longest same =
    let whole : len ≡ length text = omega (arith, within, longest, ap length same) in
    let texts = outcome_same n m outcome other small below is too (told ∙ take_all len text (omega (arith, whole)) ∙ same) in
    (texts.0, texts.1, whole)

pub whole_front : (text front : List ℕ) → text ≡ front → IsFront front text
whole_front text front same = rw same (take-length front)

-- what was read of a text: the line of its head, and the lines of its items
pub record IsRead (text : List ℕ) (n : ℕ) (outcome : Outcome) (len rest : ℕ) : Type 0 where
  pub small : n < 2 ^ 64
  pub front : IsFront (line_text (decimal n) (head_text outcome.head)) text
  pub has : HasItems (decimal n) (drop (length (line_text (decimal n) (head_text outcome.head))) text) outcome.items rest
  pub counted : len ≡ length (line_text (decimal n) (head_text outcome.head)) + rest

pub is_read : (text line digits after : List ℕ) (n : ℕ) (head : Head) (outcome : Outcome) (start rest : ℕ) → n < 2 ^ 64 → line ≡ line_text (decimal n) (head_text head) → IsFront line text → outcome.head ≡ head
    → digits ≡ decimal n → after ≡ drop start text → start ≡ length line → HasItems digits after outcome.items rest → IsRead text n outcome (start + rest) rest
is_read text line digits after n head outcome start rest small is_line front is_head are_digits is_after is_start has =
    let lines : line ≡ line_text (decimal n) (head_text outcome.head) = is_line ∙ ap (λ h. line_text (decimal n) (head_text h)) (sym is_head) in
    let start_is : start ≡ length (line_text (decimal n) (head_text outcome.head)) = is_start ∙ ap length lines in
    record {
      small = small;
      front = subst (λ l. IsFront l text) lines front;
      has = subst (λ k. HasItems (decimal n) (drop k text) outcome.items rest) start_is (subst (λ t. HasItems (decimal n) t outcome.items rest) is_after (subst (λ d. HasItems d after outcome.items rest) are_digits has));
      counted = ap (λ k. k + rest) start_is;
    }

pub read_told : (text : List ℕ) (n : ℕ) (outcome : Outcome) (len rest : ℕ) → IsRead text n outcome len rest → outcome_text n outcome ≡ take len text
unfolding outcome_text
read_told text n outcome len rest read = outcome_told text n outcome.head outcome.items rest read.front read.has ∙ ap (λ k. take k text) (sym read.counted)

pub read_longest : (text : List ℕ) (n : ℕ) (outcome : Outcome) (len rest : ℕ) → IsRead text n outcome len rest → (m : ℕ) (other : Outcome) → m < 2 ^ 64 → IsCanonical other → IsFront (outcome_text m other) text → length (outcome_text m other) ≤ len
read_longest text n outcome len rest read m other below canonical front =
    let longest = outcome_longest text n outcome.head outcome.items rest m other read.small below read.front read.has canonical front in omega (arith, longest, read.counted)

pub read_within : (text : List ℕ) (n : ℕ) (outcome : Outcome) (len rest : ℕ) → IsRead text n outcome len rest → len ≤ length text
read_within text n outcome len rest read =
    let line : List ℕ = line_text (decimal n) (head_text outcome.head) in
    omega (arith, read.counted, read.has.within, ap length (front_rest line text read.front), length-append line (drop (length line) text))

pub read_back : (text : List ℕ) (n : ℕ) (outcome : Outcome) (len rest : ℕ) → IsRead text n outcome len rest → (m : ℕ) (other : Outcome) → m < 2 ^ 64 → IsCanonical other → text ≡ outcome_text m other
    → (n ≡ m) × (outcome ≡ other) × (len ≡ length text)
read_back text n outcome len rest read m other below canonical same =
    outcome_back text n len m outcome other read.small below read.has.canonical canonical (read_within text n outcome len rest read) (read_told text n outcome len rest read)
    (read_longest text n outcome len rest read m other below canonical (whole_front text (outcome_text m other) same)) same
