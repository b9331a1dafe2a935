-- What an item prints is read as that item.
use Rattle.std.proofs.Common.{◌≡◌, ℕ, ◌<◌, List, [], ◌∷◌, ◌++◌, true, length, Some, None, Option, refl, ◌∙◌, subst, sym, append_assoc, arith}
use Rattle.std.specs.Prelude.{◌^◌, codes, decimal}
use Rattle.std.specs.List.{list_all}
use Rattle.std.proofs.lemmas.List.Folds.{list_all-append}
use Rattle.hex.specs.Hex.{IsBytes, encode_lower}
use Rattle.ibos_kinds.specs.declared.names.Instance.{Instance}
use Rattle.ibos_kinds.specs.declared.names.Verdict.TheVariants.{Filtered, Missed, Heard}
use Rattle.ibos_kinds.specs.declared.outcome.Item.{Item}
use Rattle.ibos_kinds.specs.declared.outcome.Item.TheVariants.{Opened, Moved, Ended, KeyTo, ClickTo, Cookies, RowIs, FlowIs, Arrived, ValueIs, LentIs, VerdictIs, Dropped, Home, SendIs, Returned, SentIs, Idle, Accepted, VersionIs, RequestIs, Object, NoObject, StorePut, StoreAsk}
use Rattle.ibos_kinds.specs.Limits.{IsNamed}
use Rattle.ibos_kinds.specs.Texts.{code_of, name_of}
use Rattle.ibos_text.specs.Parts.{len_before}
use Rattle.ibos_fields.specs.Fields.{instance_in, hex_in}
use Rattle.ibos_fields.specs.Printable.{is_printable, is_graph, IsWord}
use Rattle.ibos_fields.proofs.Words.{word_printable, spaced_printable}
use Rattle.ibos_outcome.specs.Printed.{instance_text, or_dash, hex_text, value_text, addr_text, item_text}
use Rattle.ibos_outcome.specs.Canonical.{IsPrintable, IsCanonicalItem}
use Rattle.ibos_outcome.specs.Readings.{after_first, field, last, nothing, printable_in, word_in, cookies_in, cells_in, byte_in, value_in, addr_in, rule_in, small_in, port_in, count_in, flow_in, flow_item, lent_item, told_in, dev_in, wire_in, log_in, user_in, store_in, other_in, item_in}
use Rattle.ibos_outcome.proofs.FieldWords.{number_word, number_read, instance_word, instance_read, hex_word, hex_read}
use Rattle.ibos_outcome.proofs.ReadWords.{word_of-front, rest_of-front, word_of-stop, rest_of-stop, word_lacks, printable_read, word_read, cookies_printable, cookies_read, cells_read, byte_word, byte_read, value_word, value_read, addr_word, addr_read}
use Rattle.ibos_outcome.proofs.RuleTexts.{code_word, name_word, rule_read}

-- ---- fields

-- the fields make that item
record Says {A : Type 0} (fields : A → List ℕ → Option Item) (item : A) (line : List ℕ) (said : Item) : Type 0 where
  pub read : fields item line ≡ Some said
  pub printable : IsPrintable line

last_says : {B : Type 0} (reader : List ℕ → Option B) (item : B → Item) (text : List ℕ) (x : B) → IsPrintable text → reader text ≡ Some x → Says (last reader) item text (item x)
last_says reader item text x printable reads = record { read = rw reads refl; printable = printable }

field_says : {A B : Type 0} (reader : List ℕ → Option B) (more : A → List ℕ → Option Item) (item : B → A) (word tail : List ℕ) (x : B) (said : Item)
    → IsWord word → reader word ≡ Some x → Says more (item x) tail said → Says (field reader more) item (word ++ 32 ∷ tail) said
field_says reader more item word tail x said is reads says = record {
  read = rw (word_of-stop 32 word tail (word_lacks word is), rest_of-stop 32 word tail (word_lacks word is)) (rw reads says.read);
  printable = spaced_printable word tail is says.printable;
}

nothing_says : (item : Item) (line : List ℕ) → IsPrintable line → Says nothing item line item
nothing_says item line printable = record { read = refl; printable = printable }

small_word : (n : ℕ) → n < 2 ^ 8 → IsWord (decimal n)
small_word n small = number_word n (omega (arith, small))

small_says : {A : Type 0} (more : A → List ℕ → Option Item) (item : ℕ → A) (n : ℕ) (tail : List ℕ) (said : Item) → n < 2 ^ 8 → Says more (item n) tail said → Says (field small_in more) item (decimal n ++ 32 ∷ tail) said
small_says more item n tail said small = field_says small_in more item (decimal n) tail n said (small_word n small) (number_read 256 n small (omega arith))

port_says : {A : Type 0} (more : A → List ℕ → Option Item) (item : ℕ → A) (n : ℕ) (tail : List ℕ) (said : Item) → n < 2 ^ 16 → Says more (item n) tail said → Says (field port_in more) item (decimal n ++ 32 ∷ tail) said
port_says more item n tail said small = field_says port_in more item (decimal n) tail n said (number_word n (omega (arith, small))) (number_read 65536 n small (omega arith))

count_says : {A : Type 0} (more : A → List ℕ → Option Item) (item : ℕ → A) (n : ℕ) (tail : List ℕ) (said : Item) → n < 2 ^ 32 → Says more (item n) tail said → Says (field count_in more) item (decimal n ++ 32 ∷ tail) said
count_says more item n tail said small = field_says count_in more item (decimal n) tail n said (number_word n small) (number_read 4294967296 n small (omega arith))

flow_says : {A : Type 0} (more : A → List ℕ → Option Item) (item : ℕ → A) (n : ℕ) (tail : List ℕ) (said : Item) → n < 16 → Says more (item n) tail said → Says (field flow_in more) item (decimal n ++ 32 ∷ tail) said
flow_says more item n tail said small = field_says flow_in more item (decimal n) tail n said (number_word n (omega (arith, small))) (number_read 16 n small (omega arith))

instance_says : {A : Type 0} (more : A → List ℕ → Option Item) (item : Instance → A) (who : Instance) (tail : List ℕ) (said : Item) → IsNamed who → Says more (item who) tail said → Says (field instance_in more) item (instance_text who ++ 32 ∷ tail) said
instance_says more item who tail said named = field_says instance_in more item (instance_text who) tail who said (instance_word who named) (instance_read who named)

word_says : {A : Type 0} (more : A → List ℕ → Option Item) (item : List ℕ → A) (word tail : List ℕ) (said : Item) → IsWord word → Says more (item word) tail said → Says (field word_in more) item (word ++ 32 ∷ tail) said
word_says more item word tail said is = field_says word_in more item word tail word said is (word_read word is)

last_small : (item : ℕ → Item) (n : ℕ) → n < 2 ^ 8 → Says (last small_in) item (decimal n) (item n)
last_small item n small = last_says small_in item (decimal n) n (word_printable (decimal n) (small_word n small)) (number_read 256 n small (omega arith))

last_port : (item : ℕ → Item) (n : ℕ) → n < 2 ^ 16 → Says (last port_in) item (decimal n) (item n)
last_port item n small = last_says port_in item (decimal n) n (word_printable (decimal n) (number_word n (omega (arith, small)))) (number_read 65536 n small (omega arith))

last_count : (item : ℕ → Item) (n : ℕ) → n < 2 ^ 32 → Says (last count_in) item (decimal n) (item n)
last_count item n small = last_says count_in item (decimal n) n (word_printable (decimal n) (number_word n small)) (number_read 4294967296 n small (omega arith))

last_hex : (item : List ℕ → Item) (bytes : List ℕ) → IsBytes bytes → Says (last hex_in) item (hex_text bytes) (item bytes)
last_hex item bytes small = last_says hex_in item (hex_text bytes) bytes (word_printable (hex_text bytes) (hex_word bytes small)) (hex_read bytes small)

last_word : (item : List ℕ → Item) (word : List ℕ) → IsWord word → Says (last word_in) item word (item word)
last_word item word is = last_says word_in item word word (word_printable word is) (word_read word is)

-- ---- addressees and kinds

literal : (word : List ℕ) → list_all is_graph word ≡ true → 0 < length word → IsWord word
literal word graph some = record { graph = graph; some = some }

-- a line that tells an item
pub record Tells (text : List ℕ) (item : Item) : Type 0 where
  pub read : item_in text ≡ Some item
  pub printable : IsPrintable text

tells_as : (text other : List ℕ) (item : Item) → other ≡ text → Tells text item → Tells other item
tells_as text other item same tells = subst (λ t. Tells t item) (sym same) tells

word_tail : (word tail : List ℕ) → IsWord word → IsPrintable tail → IsPrintable (word ++ tail)
word_tail word tail is printable = list_all-append is_printable word tail ∙ rw (word_printable word is, printable) refl

told_tail : (who : Instance) (kind tail : List ℕ) (item : Item) → IsNamed who → IsWord kind → len_before 32 tail ≡ 0 → IsPrintable tail → told_in who kind (after_first tail) ≡ Some item
    → Tells (instance_text who ++ 32 ∷ (kind ++ tail)) item
unfolding item_in
told_tail who kind tail item named is none printable reads =
    let text = instance_word who named in
    let word = word_of-stop 32 (instance_text who) (kind ++ tail) (word_lacks (instance_text who) text) in
    let rest = rest_of-stop 32 (instance_text who) (kind ++ tail) (word_lacks (instance_text who) text) in
    let second = word_of-front 32 kind tail (word_lacks kind is) none in
    let third = rest_of-front 32 kind tail (word_lacks kind is) none in
    record {
      read = rw (word, rest) (rw (second, third) (rw (instance_read who named) reads));
      printable = spaced_printable (instance_text who) (kind ++ tail) text (word_tail kind tail is printable);
    }

other_tail : (addressee kind tail : List ℕ) (item : Item) → IsWord addressee → instance_in addressee ≡ None → IsWord kind → len_before 32 tail ≡ 0 → IsPrintable tail → other_in addressee kind (after_first tail) ≡ Some item
    → Tells (addressee ++ 32 ∷ (kind ++ tail)) item
unfolding item_in
other_tail addressee kind tail item is_first no_instance is none printable reads =
    let word = word_of-stop 32 addressee (kind ++ tail) (word_lacks addressee is_first) in
    let rest = rest_of-stop 32 addressee (kind ++ tail) (word_lacks addressee is_first) in
    let second = word_of-front 32 kind tail (word_lacks kind is) none in
    let third = rest_of-front 32 kind tail (word_lacks kind is) none in
    record {
      read = rw (word, rest) (rw (second, third) (rw no_instance reads));
      printable = spaced_printable addressee (kind ++ tail) is_first (word_tail kind tail is printable);
    }

told_line : {A : Type 0} (fields : A → List ℕ → Option Item) (make : A) (who : Instance) (kind line : List ℕ) (item : Item) → IsNamed who → IsWord kind → Says fields make line item → told_in who kind line ≡ fields make line
    → Tells (instance_text who ++ 32 ∷ (kind ++ 32 ∷ line)) item
told_line fields make who kind line item named is says reads = told_tail who kind (32 ∷ line) item named is refl says.printable (reads ∙ says.read)

other_line : {A : Type 0} (fields : A → List ℕ → Option Item) (make : A) (addressee kind line : List ℕ) (item : Item) → IsWord addressee → instance_in addressee ≡ None → IsWord kind → Says fields make line item → other_in addressee kind line ≡ fields make line
    → Tells (addressee ++ 32 ∷ (kind ++ 32 ∷ line)) item
other_line fields make addressee kind line item is_first no_instance is says reads = other_tail addressee kind (32 ∷ line) item is_first no_instance is refl says.printable (reads ∙ says.read)

-- ---- items

two_spelled : (who kind first second : List ℕ) → who ++ (kind ++ first ++ codes " " ++ second) ≡ who ++ (kind ++ (first ++ 32 ∷ second))
two_spelled who kind first second = simp append_assoc

three_spelled : (who kind first second third : List ℕ) → who ++ (kind ++ first ++ codes " " ++ second ++ codes " " ++ third) ≡ who ++ (kind ++ (first ++ 32 ∷ (second ++ 32 ∷ third)))
three_spelled who kind first second third = simp append_assoc

four_spelled : (who kind first second third fourth : List ℕ) → who ++ (kind ++ first ++ codes " " ++ second ++ codes " " ++ third ++ codes " " ++ fourth) ≡ who ++ (kind ++ (first ++ 32 ∷ (second ++ 32 ∷ (third ++ 32 ∷ fourth))))
four_spelled who kind first second third fourth = simp append_assoc

row_spelled : (user kind first second : List ℕ) → user ++ (kind ++ first ++ codes " |" ++ second) ≡ user ++ (kind ++ (first ++ 32 ∷ (124 ∷ second)))
row_spelled user kind first second = simp append_assoc

pub item_tells : (item : Item) → IsCanonicalItem item → Tells (item_text item) item
unfolding item_text told_in dev_in wire_in log_in user_in store_in other_in instance_in
item_tells (Opened who url) is = told_line (last printable_in) (Opened who) who (codes "opened") url _ is.0 (literal _ refl (omega arith)) (last_says printable_in (Opened who) url url is.1 (printable_read url is.1)) refl
item_tells (Moved who url) is = told_line (last printable_in) (Moved who) who (codes "at") url _ is.0 (literal _ refl (omega arith)) (last_says printable_in (Moved who) url url is.1 (printable_read url is.1)) refl
item_tells (Ended who) is = told_tail who (codes "ended") [] (Ended who) is (literal _ refl (omega arith)) refl refl refl
item_tells (KeyTo who byte) is = told_line (last byte_in) (KeyTo who) who (codes "key") (encode_lower (byte ∷ [])) _ is.0 (literal _ refl (omega arith)) (last_says byte_in (KeyTo who) (encode_lower (byte ∷ [])) byte (word_printable _ (byte_word byte is.1)) (byte_read byte is.1)) refl
item_tells (ClickTo who row col) is =
    tells_as _ _ _ (two_spelled (instance_text who) (codes " click ") (decimal row) (decimal col))
    (told_line (field small_in (last small_in)) (ClickTo who) who (codes "click") (decimal row ++ 32 ∷ decimal col) (ClickTo who row col) is.0 (literal _ refl (omega arith))
    (small_says (last small_in) (ClickTo who) row (decimal col) (ClickTo who row col) is.1 (last_small (ClickTo who row) col is.2)) refl)
item_tells (Cookies who text) is = told_line (last cookies_in) (Cookies who) who (codes "cookies") (or_dash text) _ is.0 (literal _ refl (omega arith)) (last_says cookies_in (Cookies who) (or_dash text) text (cookies_printable text is.1) (cookies_read text is.1)) refl
item_tells (RowIs row text) is =
    tells_as _ _ _ (row_spelled (codes "user") (codes " row ") (decimal row) text)
    (other_line (field small_in (last cells_in)) RowIs (codes "user") (codes "row") (decimal row ++ 32 ∷ (124 ∷ text)) (RowIs row text) (literal _ refl (omega arith)) refl (literal _ refl (omega arith))
    (small_says (last cells_in) RowIs row (124 ∷ text) (RowIs row text) is.0 (last_says cells_in (RowIs row) (124 ∷ text) text is.1.printable (cells_read text is.1))) refl)
item_tells (FlowIs who flow port remote) is =
    let said : Item = FlowIs who flow port remote in
    tells_as _ _ _ (four_spelled (instance_text who) (codes " flow ") (decimal flow) (decimal port) (addr_text remote.addr) (decimal remote.port))
    (told_line (field flow_in (field port_in (field addr_in (last port_in)))) (flow_item who) who (codes "flow") _ said is.0 (literal _ refl (omega arith))
    (flow_says (field port_in (field addr_in (last port_in))) (flow_item who) flow _ said is.1
    (port_says (field addr_in (last port_in)) (flow_item who flow) port _ said is.2
    (field_says addr_in (last port_in) (flow_item who flow port) (addr_text remote.addr) (decimal remote.port) remote.addr said (addr_word remote.addr) (addr_read remote.addr is.3)
    (last_port (flow_item who flow port remote.addr) remote.port is.4)))) refl)
item_tells (Arrived who flow bytes) is =
    tells_as _ _ _ (two_spelled (instance_text who) (codes " frame ") (decimal flow) (hex_text bytes))
    (told_line (field flow_in (last hex_in)) (Arrived who) who (codes "frame") _ (Arrived who flow bytes) is.0 (literal _ refl (omega arith))
    (flow_says (last hex_in) (Arrived who) flow (hex_text bytes) (Arrived who flow bytes) is.1 (last_hex (Arrived who flow) bytes is.2)) refl)
item_tells (ValueIs value) is = other_line (last value_in) ValueIs (codes "dev") (codes "value") (value_text value) _ (literal _ refl (omega arith)) refl (literal _ refl (omega arith)) (last_says value_in ValueIs (value_text value) value (word_printable _ (value_word value)) (value_read value is)) refl
item_tells (LentIs handle) is =
    tells_as _ _ _ (two_spelled (codes "dev") (codes " lent ") (decimal handle.name) (decimal handle.turn))
    (other_line (field small_in (last count_in)) lent_item (codes "dev") (codes "lent") _ (LentIs handle) (literal _ refl (omega arith)) refl (literal _ refl (omega arith))
    (small_says (last count_in) lent_item handle.name (decimal handle.turn) (LentIs handle) is.0 (last_count (lent_item handle.name) handle.turn is.1)) refl)
item_tells (VerdictIs Filtered) is = other_tail (codes "wire") (codes "filtered") [] (VerdictIs Filtered) (literal _ refl (omega arith)) refl (literal _ refl (omega arith)) refl refl refl
item_tells (VerdictIs Missed) is = other_tail (codes "wire") (codes "missed") [] (VerdictIs Missed) (literal _ refl (omega arith)) refl (literal _ refl (omega arith)) refl refl refl
item_tells (VerdictIs Heard) is = other_tail (codes "wire") (codes "heard") [] (VerdictIs Heard) (literal _ refl (omega arith)) refl (literal _ refl (omega arith)) refl refl refl
item_tells (Dropped rule) is =
    tells_as _ _ _ (two_spelled (codes "log") (codes " drop ") (code_of rule) (name_of rule))
    (other_line (field rule_in nothing) Dropped (codes "log") (codes "drop") _ (Dropped rule) (literal _ refl (omega arith)) refl (literal _ refl (omega arith))
    (field_says rule_in nothing Dropped (code_of rule) (name_of rule) rule (Dropped rule) (code_word rule) (rule_read rule) (nothing_says (Dropped rule) (name_of rule) (word_printable _ (name_word rule)))) refl)
item_tells (Home who buffer) is = told_line (last small_in) (Home who) who (codes "home") (decimal buffer) _ is.0 (literal _ refl (omega arith)) (last_small (Home who) buffer is.1) refl
item_tells (SendIs send) is = other_line (last count_in) SendIs (codes "dev") (codes "send") (decimal send) _ (literal _ refl (omega arith)) refl (literal _ refl (omega arith)) (last_count SendIs send is) refl
item_tells (Returned send) is = other_line (last count_in) Returned (codes "dev") (codes "returned") (decimal send) _ (literal _ refl (omega arith)) refl (literal _ refl (omega arith)) (last_count Returned send is) refl
item_tells (SentIs send) is = other_line (last count_in) SentIs (codes "wire") (codes "sent") (decimal send) _ (literal _ refl (omega arith)) refl (literal _ refl (omega arith)) (last_count SentIs send is) refl
item_tells Idle is = other_tail (codes "wire") (codes "idle") [] Idle (literal _ refl (omega arith)) refl (literal _ refl (omega arith)) refl refl refl
item_tells (Accepted send who bytes) is =
    tells_as _ _ _ (three_spelled (codes "log") (codes " frame ") (decimal send) (instance_text who) (hex_text bytes))
    (other_line (field count_in (field instance_in (last hex_in))) Accepted (codes "log") (codes "frame") _ (Accepted send who bytes) (literal _ refl (omega arith)) refl (literal _ refl (omega arith))
    (count_says (field instance_in (last hex_in)) Accepted send _ (Accepted send who bytes) is.0
    (instance_says (last hex_in) (Accepted send) who (hex_text bytes) (Accepted send who bytes) is.1 (last_hex (Accepted send who) bytes is.2))) refl)
item_tells (VersionIs who version) is = told_line (last count_in) (VersionIs who) who (codes "version") (decimal version) _ is.0 (literal _ refl (omega arith)) (last_count (VersionIs who) version is.1) refl
item_tells (RequestIs who request) is = told_line (last count_in) (RequestIs who) who (codes "request") (decimal request) _ is.0 (literal _ refl (omega arith)) (last_count (RequestIs who) request is.1) refl
item_tells (Object who request version bytes) is =
    tells_as _ _ _ (three_spelled (instance_text who) (codes " object ") (decimal request) (decimal version) (hex_text bytes))
    (told_line (field count_in (field count_in (last hex_in))) (Object who) who (codes "object") _ (Object who request version bytes) is.0 (literal _ refl (omega arith))
    (count_says (field count_in (last hex_in)) (Object who) request _ (Object who request version bytes) is.1
    (count_says (last hex_in) (Object who request) version (hex_text bytes) (Object who request version bytes) is.2 (last_hex (Object who request version) bytes is.3))) refl)
item_tells (NoObject who request) is = told_line (last count_in) (NoObject who) who (codes "none") (decimal request) _ is.0 (literal _ refl (omega arith)) (last_count (NoObject who) request is.1) refl
item_tells (StorePut origin label version len) is =
    let said : Item = StorePut origin label version len in
    tells_as _ _ _ (four_spelled (codes "store") (codes " put ") origin label (decimal version) (decimal len))
    (other_line (field word_in (field word_in (field count_in (last count_in)))) StorePut (codes "store") (codes "put") _ said (literal _ refl (omega arith)) refl (literal _ refl (omega arith))
    (word_says (field word_in (field count_in (last count_in))) StorePut origin _ said is.0
    (word_says (field count_in (last count_in)) (StorePut origin) label _ said is.1
    (count_says (last count_in) (StorePut origin label) version (decimal len) said is.2 (last_count (StorePut origin label version) len is.3)))) refl)
item_tells (StoreAsk who request origin label) is =
    let said : Item = StoreAsk who request origin label in
    tells_as _ _ _ (four_spelled (codes "store") (codes " ask ") (instance_text who) (decimal request) origin label)
    (other_line (field instance_in (field count_in (field word_in (last word_in)))) StoreAsk (codes "store") (codes "ask") _ said (literal _ refl (omega arith)) refl (literal _ refl (omega arith))
    (instance_says (field count_in (field word_in (last word_in))) StoreAsk who _ said is.0
    (count_says (field word_in (last word_in)) (StoreAsk who) request _ said is.1
    (word_says (last word_in) (StoreAsk who request) origin label said is.2 (last_word (StoreAsk who request origin) label is.3)))) refl)
