-- The line that spells an act reads as that act.
use Rattle.std.proofs.Common.{◌≡◌, ℕ, ◌<◌, ◌≤◌, List, [], ◌∷◌, ◌++◌, Bool, true, false, not, length, Some, None, Option, Ok, Err, Result, refl, ◌∙◌, ap, subst, arith}
use Rattle.std.specs.Prelude.{◌^◌, ◌||◌, nat_lt, codes, decimal, if◌then◌else◌}
use Rattle.std.specs.List.{list_all}
use Rattle.std.proofs.lemmas.Bool.Decides.{nat_tests}
use Rattle.std.proofs.lemmas.List.{append-nil}
use Rattle.std.proofs.lemmas.List.Folds.{list_all-append}
use Rattle.hex.specs.Hex.{IsBytes}
use Rattle.ibos_kinds.specs.declared.act.Act.{Act}
use Rattle.ibos_kinds.specs.declared.act.Act.TheVariants.{Start, Switch, Close, Press, Click, Look, Go, Draw, CookieSet, CookieGet, Bind, Unbind, Done, RegRead, RegWrite, RxPost, RxBell, WireIn, Fill, Submit, TxPost, TxBell, WireOut, Put, Ask, StoreAnswer, StoreNone, StoreLose}
use Rattle.ibos_kinds.specs.declared.names.Instance.{Instance}
use Rattle.ibos_kinds.specs.declared.names.Proto.TheVariants.{Tcp, Udp}
use Rattle.ibos_kinds.specs.declared.names.Side.{Side}
use Rattle.ibos_kinds.specs.declared.names.Side.TheVariants.{Page, Net}
use Rattle.ibos_kinds.specs.Limits.{Fits, IsNamed}
use Rattle.ibos_text.specs.Parts.{len_before}
use Rattle.ibos_text.specs.Words.{first_word, after_word, has_word}
use Rattle.ibos_script.specs.declared.fault.LineFault.{LineFault}
use Rattle.ibos_script.specs.declared.fault.LineFault.TheVariants.{Long, Byte, Number, Hex}
use Rattle.ibos_script.specs.declared.lines.Line.{Line}
use Rattle.ibos_script.specs.declared.lines.Line.TheVariants.{Act as ActLine}
use Rattle.ibos_fields.specs.Fields.{number_in, hex_number_in, instance_in, key_in, hex_in}
use Rattle.ibos_script.specs.Forms.{Fields, nothing, rest, field, tab, number, flow, buffer, name, hex_number, key, instance, word, hex, form, form_of}
use Rattle.ibos_fields.specs.Printable.{is_printable}
use Rattle.ibos_script.specs.Lines.{user_in, dev_in, bell_in, posted, wire_in, store_in, cookie_in, page_in, flow_in, net_in, act_in, is_comment, some_line, line_in}
use Rattle.ibos_outcome.specs.Printed.{instance_text, hex_text}
use Rattle.ibos_fields.specs.Printable.{is_graph, IsWord}
use Rattle.ibos_script.specs.Spelled.{key_text, side_text, hex_number_text, spelled, IsRest, IsSpellable}
use Rattle.ibos_fields.proofs.Words.{first_is, after_is, has_is, first_spaced, after_spaced, has_spaced, has_none, word_printable, spaced_printable}
use Rattle.ibos_outcome.proofs.FieldWords.{number_word, number_read, instance_word, instance_read, hex_word, hex_read}
use Rattle.ibos_script.proofs.KeyWords.{key_word, key_read}
use Rattle.ibos_script.proofs.HexNumbers.{hex_number_word, hex_number_read}

-- ---- fields

-- the fields stand there, and make that act
record Says {A : Type 0} (fields : Fields A) (act : A) (line : List ℕ) (said : Act) : Type 0 where
  pub counted : fields.counts line ≡ true
  pub read : fields.reads act line ≡ Ok (ActLine said)
  pub printable : list_all is_printable line ≡ true
  pub ends : len_before 32 line ≡ 0

nothing_says : (act : Act) → Says nothing act [] act
nothing_says act = record { counted = ap not has_none; read = refl; printable = refl; ends = refl }

rest_says : (act : List ℕ → Act) (text : List ℕ) → IsRest text → Says rest act (32 ∷ text) (act text)
rest_says act text is = record { counted = refl; read = ap (λ t. Ok (ActLine (act t))) is.1; printable = is.0; ends = refl }

field_says : {A B : Type 0} (fault : LineFault) (reader : List ℕ → Option B) (more : Fields A) (act : B → A) (word tail : List ℕ) (x : B) (said : Act)
    → IsWord word → reader word ≡ Some x → Says more (act x) tail said → Says (field fault reader more) act (32 ∷ (word ++ tail)) said
field_says fault reader more act word tail x said is reads says =
    let first = first_spaced (word ++ tail) ∙ first_is word tail is says.ends in
    let after = after_spaced (word ++ tail) ∙ after_is word tail is says.ends in
    let has = has_spaced (word ++ tail) ∙ has_is word tail is in
    record {
      counted = rw (has, after) says.counted;
      read = rw (first, after) (rw reads says.read);
      printable = list_all-append is_printable word tail ∙ rw (word_printable word is, says.printable) refl;
      ends = refl;
    }

last_says : {B : Type 0} (fault : LineFault) (reader : List ℕ → Option B) (act : B → Act) (word : List ℕ) (x : B)
    → IsWord word → reader word ≡ Some x → Says (field fault reader nothing) act (32 ∷ word) (act x)
last_says fault reader act word x is reads =
    let says = field_says fault reader nothing act word [] x (act x) is reads (nothing_says (act x)) in
    subst (λ line. Says (field fault reader nothing) act (32 ∷ line) (act x)) (append-nil word) says

tab_says : {A : Type 0} (more : Fields A) (act : ℕ → A) (n : ℕ) (tail : List ℕ) (said : Act) → n < 64 → Says more (act n) tail said → Says (tab more) act (32 ∷ (decimal n ++ tail)) said
tab_says more act n tail said small = field_says Number (number_in 64) more act (decimal n) tail n said (number_word n (omega (arith, small))) (number_read 64 n small (omega arith))

number_says : {A : Type 0} (more : Fields A) (act : ℕ → A) (n : ℕ) (tail : List ℕ) (said : Act) → n < 2 ^ 32 → Says more (act n) tail said → Says (number more) act (32 ∷ (decimal n ++ tail)) said
number_says more act n tail said small = field_says Number (number_in 4294967296) more act (decimal n) tail n said (number_word n small) (number_read 4294967296 n small (omega arith))

hex_number_says : {A : Type 0} (more : Fields A) (act : ℕ → A) (n : ℕ) (tail : List ℕ) (said : Act) → n < 2 ^ 32 → Says more (act n) tail said → Says (hex_number more) act (32 ∷ (hex_number_text n ++ tail)) said
hex_number_says more act n tail said small = field_says Number hex_number_in more act (hex_number_text n) tail n said (hex_number_word n) (hex_number_read n small)

name_says : {A : Type 0} (more : Fields A) (act : ℕ → A) (n : ℕ) (tail : List ℕ) (said : Act) → n < 256 → Says more (act n) tail said → Says (name more) act (32 ∷ (decimal n ++ tail)) said
name_says more act n tail said small = field_says Number (number_in 256) more act (decimal n) tail n said (number_word n (omega (arith, small))) (number_read 256 n small (omega arith))

buffer_says : {A : Type 0} (more : Fields A) (act : ℕ → A) (n : ℕ) (tail : List ℕ) (said : Act) → n < 4 → Says more (act n) tail said → Says (buffer more) act (32 ∷ (decimal n ++ tail)) said
buffer_says more act n tail said small = field_says Number (number_in 4) more act (decimal n) tail n said (number_word n (omega (arith, small))) (number_read 4 n small (omega arith))

instance_says : {A : Type 0} (more : Fields A) (act : Instance → A) (who : Instance) (tail : List ℕ) (said : Act) → IsNamed who → Says more (act who) tail said → Says (instance more) act (32 ∷ (instance_text who ++ tail)) said
instance_says more act who tail said named = field_says Number instance_in more act (instance_text who) tail who said (instance_word who named) (instance_read who named)

word_says : {A : Type 0} (more : Fields A) (act : List ℕ → A) (text : List ℕ) (tail : List ℕ) (said : Act) → IsWord text → Says more (act text) tail said → Says (word more) act (32 ∷ (text ++ tail)) said
word_says more act text tail said is = field_says Number Some more act text tail text said is refl

last_number : (act : ℕ → Act) (n : ℕ) → n < 2 ^ 32 → Says (number nothing) act (32 ∷ decimal n) (act n)
last_number act n small = last_says Number (number_in 4294967296) act (decimal n) n (number_word n small) (number_read 4294967296 n small (omega arith))

last_hex : (act : List ℕ → Act) (bytes : List ℕ) → IsBytes bytes → Says (hex nothing) act (32 ∷ hex_text bytes) (act bytes)
last_hex act bytes small = last_says Hex hex_in act (hex_text bytes) bytes (hex_word bytes small) (hex_read bytes small)

form_says : {A : Type 0} (fields : Fields A) (act : A) (line : List ℕ) (said : Act) → Says fields act line said → form fields act line ≡ Ok (ActLine said)
form_says fields act line said says = rw says.counted says.read

form_of_says : {A : Type 0} (fields : Fields A) (act : Instance → A) (who : Instance) (line : List ℕ) (said : Act) → IsNamed who → Says fields (act who) line said
    → form_of fields act (instance_text who) line ≡ Ok (ActLine said)
form_of_says fields act who line said named says = rw (says.counted, instance_read who named) says.read

-- ---- actors and commands

literal : (word : List ℕ) → list_all is_graph word ≡ true → 0 < length word → IsWord word
literal word graph some = record { graph = graph; some = some }

-- those whose command is the second word
data Lone : Type 0 where
  AsUser : Lone
  AsDriver : Lone
  AsWire : Lone
  AsStore : Lone

abbrev lone_text : Lone → List ℕ
lone_text AsUser = codes "user"
lone_text AsDriver = codes "dev"
lone_text AsWire = codes "wire"
lone_text AsStore = codes "store"

abbrev lone_in : Lone → List ℕ → List ℕ → Result Line LineFault
lone_in AsUser = user_in
lone_in AsDriver = dev_in
lone_in AsWire = wire_in
lone_in AsStore = store_in

lone_word : (lone : Lone) → IsWord (lone_text lone)
lone_word AsUser = literal (codes "user") refl (omega arith)
lone_word AsDriver = literal (codes "dev") refl (omega arith)
lone_word AsWire = literal (codes "wire") refl (omega arith)
lone_word AsStore = literal (codes "store") refl (omega arith)

lone_starts : (lone : Lone) (line : List ℕ) → act_in (lone_text lone) line ≡ lone_in lone (first_word line) (after_word line)
unfolding act_in
lone_starts AsUser line = refl
lone_starts AsDriver line = refl
lone_starts AsWire line = refl
lone_starts AsStore line = refl

lone_says : (lone : Lone) (command tail : List ℕ) (said : Act) → IsWord command → len_before 32 tail ≡ 0 → lone_in lone command tail ≡ Ok (ActLine said)
    → act_in (first_word (lone_text lone ++ 32 ∷ (command ++ tail))) (after_word (lone_text lone ++ 32 ∷ (command ++ tail))) ≡ Ok (ActLine said)
lone_says lone command tail said is none says =
    let first = first_is (lone_text lone) (32 ∷ (command ++ tail)) (lone_word lone) refl in
    let after = after_is (lone_text lone) (32 ∷ (command ++ tail)) (lone_word lone) refl in
    let second = first_spaced (command ++ tail) ∙ first_is command tail is none in
    let third = after_spaced (command ++ tail) ∙ after_is command tail is none in
    rw (first, after) (lone_starts lone (32 ∷ (command ++ tail)) ∙ rw (second, third) says)

-- behind three words
side_in : Side → List ℕ → List ℕ → List ℕ → Result Line LineFault
side_in Page = page_in
side_in Net = net_in

side_word : (side : Side) → IsWord (side_text side)
side_word Page = literal (codes "page") refl (omega arith)
side_word Net = literal (codes "net") refl (omega arith)

side_starts : (side : Side) (line : List ℕ) → act_in (side_text side) line ≡ side_in side (first_word line) (first_word (after_word line)) (after_word (after_word line))
unfolding act_in side_in
side_starts Page line = refl
side_starts Net line = refl

side_says : (side : Side) (who : Instance) (command tail : List ℕ) (said : Act) → IsNamed who → IsWord command → len_before 32 tail ≡ 0
    → side_in side (instance_text who) command tail ≡ Ok (ActLine said)
    → act_in (first_word (side_text side ++ 32 ∷ (instance_text who ++ 32 ∷ (command ++ tail)))) (after_word (side_text side ++ 32 ∷ (instance_text who ++ 32 ∷ (command ++ tail)))) ≡ Ok (ActLine said)
side_says side who command tail said named is none says =
    let word = instance_word who named in
    let rest : List ℕ = instance_text who ++ 32 ∷ (command ++ tail) in
    let first = first_is (side_text side) (32 ∷ rest) (side_word side) refl in
    let after = after_is (side_text side) (32 ∷ rest) (side_word side) refl in
    let second = first_spaced rest ∙ first_is (instance_text who) (32 ∷ (command ++ tail)) word refl in
    let third = after_spaced rest ∙ after_is (instance_text who) (32 ∷ (command ++ tail)) word refl in
    let fourth = first_spaced (command ++ tail) ∙ first_is command tail is none in
    let fifth = after_spaced (command ++ tail) ∙ after_is command tail is none in
    rw (first, after) (side_starts side (32 ∷ rest) ∙ rw (second, third) (rw (fourth, fifth) says))

-- ---- lines

when_none : (long printable comment none : Bool) (r : Result (Option Line) LineFault) → long ≡ false → printable ≡ true → comment ≡ false → none ≡ true
    → (if long then Err Long else if not printable then Err Byte else if comment || not none then Ok None else r) ≡ r
when_none long printable comment none r is_long is_printable is_comment is_none = rw (is_long, is_printable, is_comment, is_none) refl

line_says : (word rest : List ℕ) (said : Act) → IsWord word → list_all is_printable rest ≡ true → is_comment word ≡ false → length (word ++ 32 ∷ rest) ≤ 8192
    → act_in (first_word (word ++ 32 ∷ rest)) (after_word (word ++ 32 ∷ rest)) ≡ Ok (ActLine said) → line_in (word ++ 32 ∷ rest) ≡ Ok (Some (ActLine said))
unfolding line_in
line_says word rest said is printable plain short says =
    when_none (nat_lt 8192 (length (word ++ 32 ∷ rest))) (list_all is_printable (word ++ 32 ∷ rest)) (is_comment (word ++ 32 ∷ rest)) (has_word (word ++ 32 ∷ rest)) _
    (grind (arith, nat_tests, short)) (spaced_printable word rest is printable) (no_comment word (32 ∷ rest) is plain) (has_is word (32 ∷ rest) is)
    ∙ ap some_line says
  where
    no_comment : (w tail : List ℕ) → IsWord w → is_comment w ≡ false → is_comment (w ++ tail) ≡ false
    no_comment [] tail some plain = absurd (omega (arith, some.some))
    no_comment (b ∷ w) tail some plain = plain

lone_line : {A : Type 0} (fields : Fields A) (act : A) (lone : Lone) (command tail : List ℕ) (said : Act) → IsWord command → Says fields act tail said → lone_in lone command tail ≡ form fields act tail
    → length (lone_text lone ++ 32 ∷ (command ++ tail)) ≤ 8192 → line_in (lone_text lone ++ 32 ∷ (command ++ tail)) ≡ Ok (Some (ActLine said))
lone_line fields act lone command tail said is says forms short =
    line_says (lone_text lone) (command ++ tail) said (lone_word lone)
    (list_all-append is_printable command tail ∙ rw (word_printable command is, says.printable) refl) (plain lone) short
    (lone_says lone command tail said is says.ends (forms ∙ form_says fields act tail said says))
  where
    plain : (l : Lone) → is_comment (lone_text l) ≡ false
    plain AsUser = refl
    plain AsDriver = refl
    plain AsWire = refl
    plain AsStore = refl

side_plain : (side : Side) → is_comment (side_text side) ≡ false
side_plain Page = refl
side_plain Net = refl

side_line : {A : Type 0} (fields : Fields A) (act : Instance → A) (side : Side) (who : Instance) (command tail : List ℕ) (said : Act) → IsNamed who → IsWord command → Says fields (act who) tail said
    → side_in side (instance_text who) command tail ≡ form_of fields act (instance_text who) tail
    → length (side_text side ++ 32 ∷ (instance_text who ++ 32 ∷ (command ++ tail))) ≤ 8192
    → line_in (side_text side ++ 32 ∷ (instance_text who ++ 32 ∷ (command ++ tail))) ≡ Ok (Some (ActLine said))
side_line fields act side who command tail said named is says forms short =
    line_says (side_text side) (instance_text who ++ 32 ∷ (command ++ tail)) said (side_word side)
    (spaced_printable (instance_text who) (command ++ tail) (instance_word who named) (list_all-append is_printable command tail ∙ rw (word_printable command is, says.printable) refl))
    (side_plain side) short
    (side_says side who command tail said named is says.ends (forms ∙ form_of_says fields act who tail said named says))

-- behind a third word that belongs to the command
third_line : {A : Type 0} (fields : Fields A) (act : Instance → A) (inner : List ℕ → List ℕ → Result Line LineFault) (side : Side) (who : Instance) (first second tail : List ℕ) (said : Act)
    → IsNamed who → IsWord first → IsWord second → Says fields (act who) tail said
    → ((line : List ℕ) → side_in side (instance_text who) first line ≡ inner (first_word line) (after_word line))
    → inner second tail ≡ form_of fields act (instance_text who) tail
    → length (side_text side ++ 32 ∷ (instance_text who ++ 32 ∷ (first ++ 32 ∷ (second ++ tail)))) ≤ 8192
    → line_in (side_text side ++ 32 ∷ (instance_text who ++ 32 ∷ (first ++ 32 ∷ (second ++ tail)))) ≡ Ok (Some (ActLine said))
third_line fields act inner side who first second tail said named one two says starts forms short =
    line_says (side_text side) (instance_text who ++ 32 ∷ (first ++ 32 ∷ (second ++ tail))) said (side_word side)
    (spaced_printable (instance_text who) (first ++ 32 ∷ (second ++ tail)) (instance_word who named)
    (spaced_printable first (second ++ tail) one (list_all-append is_printable second tail ∙ rw (word_printable second two, says.printable) refl)))
    (side_plain side) short
    (side_says side who first (32 ∷ (second ++ tail)) said named one refl
    (starts (32 ∷ (second ++ tail)) ∙ rw (first_spaced (second ++ tail) ∙ first_is second tail two says.ends, after_spaced (second ++ tail) ∙ after_is second tail two says.ends)
    (forms ∙ form_of_says fields act who tail said named says)))

cookie_starts : (side : Side) (who line : List ℕ) → side_in side who (codes "cookie") line ≡ cookie_in side who (first_word line) (after_word line)
unfolding side_in page_in net_in
cookie_starts Page who line = refl
cookie_starts Net who line = refl

cookie_line : {A : Type 0} (fields : Fields A) (act : Instance → A) (side : Side) (who : Instance) (command tail : List ℕ) (said : Act) → IsNamed who → IsWord command → Says fields (act who) tail said
    → cookie_in side (instance_text who) command tail ≡ form_of fields act (instance_text who) tail
    → length (side_text side ++ 32 ∷ (instance_text who ++ 32 ∷ (codes "cookie" ++ 32 ∷ (command ++ tail)))) ≤ 8192
    → line_in (side_text side ++ 32 ∷ (instance_text who ++ 32 ∷ (codes "cookie" ++ 32 ∷ (command ++ tail)))) ≡ Ok (Some (ActLine said))
cookie_line fields act side who command tail said named is says forms short =
    third_line fields act (cookie_in side (instance_text who)) side who (codes "cookie") command tail said named (literal _ refl (omega arith)) is says (cookie_starts side (instance_text who)) forms short

flow_starts : (who line : List ℕ) → side_in Net who (codes "flow") line ≡ flow_in who (first_word line) (after_word line)
unfolding side_in net_in
flow_starts who line = refl

flow_line : (act : Instance → Act) (who : Instance) (proto : List ℕ) (said : Act) → IsNamed who → IsWord proto → Says nothing (act who) [] said
    → flow_in (instance_text who) proto [] ≡ form_of nothing act (instance_text who) []
    → length (codes "net" ++ 32 ∷ (instance_text who ++ 32 ∷ (codes "flow" ++ 32 ∷ (proto ++ [])))) ≤ 8192
    → line_in (codes "net" ++ 32 ∷ (instance_text who ++ 32 ∷ (codes "flow" ++ 32 ∷ (proto ++ [])))) ≡ Ok (Some (ActLine said))
flow_line act who proto said named is says forms short =
    third_line nothing act (flow_in (instance_text who)) Net who (codes "flow") proto [] said named (literal _ refl (omega arith)) is says (flow_starts (instance_text who)) forms short

bell_starts : (line : List ℕ) → lone_in AsDriver (codes "bell") line ≡ bell_in (first_word line) (after_word line)
unfolding dev_in
bell_starts line = refl

bell_line : (act : Act) (ring : List ℕ) → IsWord ring → bell_in ring [] ≡ form nothing act []
    → length (codes "dev" ++ 32 ∷ (codes "bell" ++ 32 ∷ (ring ++ []))) ≤ 8192
    → line_in (codes "dev" ++ 32 ∷ (codes "bell" ++ 32 ∷ (ring ++ []))) ≡ Ok (Some (ActLine act))
bell_line act ring is forms short =
    line_says (codes "dev") (codes "bell" ++ 32 ∷ (ring ++ [])) act (lone_word AsDriver)
    (spaced_printable (codes "bell") (ring ++ []) (literal _ refl (omega arith)) (list_all-append is_printable ring [] ∙ rw (word_printable ring is) refl)) refl short
    (lone_says AsDriver (codes "bell") (32 ∷ (ring ++ [])) act (literal _ refl (omega arith)) refl
    (bell_starts (32 ∷ (ring ++ [])) ∙ rw (first_spaced (ring ++ []) ∙ first_is ring [] is refl, after_spaced (ring ++ []) ∙ after_is ring [] is refl)
    (forms ∙ form_says nothing act [] act (nothing_says act))))

-- ---- acts

pub spelled_reads : (act : Act) → Fits act → IsSpellable act → length (spelled act) ≤ 8192 → line_in (spelled act) ≡ Ok (Some (ActLine act))
unfolding user_in dev_in bell_in wire_in store_in side_in page_in net_in flow_in cookie_in
spelled_reads (Start n url) fits is short =
    lone_line (tab rest) Start AsUser (codes "open") _ _ (literal _ refl (omega arith)) (tab_says rest Start n (32 ∷ url) (Start n url) fits (rest_says (Start n) url is)) refl short
spelled_reads (Switch n) fits is short =
    lone_line (tab nothing) Switch AsUser (codes "switch") _ _ (literal _ refl (omega arith)) (last_says Number (number_in 64) Switch (decimal n) n (number_word n (omega (arith, fits))) (number_read 64 n fits (omega arith))) refl short
spelled_reads (Close n) fits is short =
    lone_line (tab nothing) Close AsUser (codes "close") _ _ (literal _ refl (omega arith)) (last_says Number (number_in 64) Close (decimal n) n (number_word n (omega (arith, fits))) (number_read 64 n fits (omega arith))) refl short
spelled_reads (Press k) fits is short =
    lone_line (key nothing) Press AsUser (codes "key") _ _ (literal _ refl (omega arith)) (last_says Number key_in Press (key_text k) k (key_word k fits) (key_read k fits)) refl short
spelled_reads (Click row col) fits is short =
    lone_line (number (number nothing)) Click AsUser (codes "click") _ _ (literal _ refl (omega arith))
    (number_says (number nothing) Click row (32 ∷ decimal col) (Click row col) is.0 (last_says Number (number_in 4294967296) (Click row) (decimal col) col (number_word col is.1) (number_read 4294967296 col is.1 (omega arith)))) refl short
spelled_reads Look fits is short = lone_line nothing Look AsUser (codes "look") [] Look (literal _ refl (omega arith)) (nothing_says Look) refl short
spelled_reads (Go who url) fits is short =
    side_line rest Go Page who (codes "go") _ _ fits (literal _ refl (omega arith)) (rest_says (Go who) url is) refl short
spelled_reads (Draw who row col height width pixels) fits is short =
    let said = Draw who row col height width pixels in
    side_line (number (number (number (number (hex nothing))))) Draw Page who (codes "draw") _ _ fits (literal _ refl (omega arith))
    (number_says (number (number (number (hex nothing)))) (Draw who) row _ said is.0
    (number_says (number (number (hex nothing))) (Draw who row) col _ said is.1
    (number_says (number (hex nothing)) (Draw who row col) height _ said is.2
    (number_says (hex nothing) (Draw who row col height) width _ said is.3
    (last_says Hex hex_in (Draw who row col height width) (hex_text pixels) pixels (hex_word pixels is.4) (hex_read pixels is.4)))))) refl short
spelled_reads (CookieSet side who text) fits is short =
    cookie_line rest (CookieSet side) side who (codes "set") _ _ fits (literal _ refl (omega arith)) (rest_says (CookieSet side who) text is) refl short
spelled_reads (CookieGet side who) fits is short =
    cookie_line nothing (CookieGet side) side who (codes "get") [] (CookieGet side who) fits (literal _ refl (omega arith)) (nothing_says (CookieGet side who)) refl short
spelled_reads (Bind who Tcp) fits is short =
    let act : Instance → Act = λ q. Bind q Tcp in
    flow_line act who (codes "tcp") (Bind who Tcp) fits (literal _ refl (omega arith)) (nothing_says (Bind who Tcp)) refl short
spelled_reads (Bind who Udp) fits is short =
    let act : Instance → Act = λ q. Bind q Udp in
    flow_line act who (codes "udp") (Bind who Udp) fits (literal _ refl (omega arith)) (nothing_says (Bind who Udp)) refl short
spelled_reads (Unbind who n) fits is short =
    side_line (flow nothing) Unbind Net who (codes "close") _ _ fits.0 (literal _ refl (omega arith)) (last_says Number (number_in 16) (Unbind who) (decimal n) n (number_word n (omega (arith, fits.1))) (number_read 16 n fits.1 (omega arith))) refl short
spelled_reads (Done who) fits is short = side_line nothing Done Net who (codes "done") [] (Done who) fits (literal _ refl (omega arith)) (nothing_says (Done who)) refl short
spelled_reads (RegRead offset) fits is short =
    lone_line (hex_number nothing) RegRead AsDriver (codes "read") _ _ (literal _ refl (omega arith)) (last_says Number hex_number_in RegRead (hex_number_text offset) offset (hex_number_word offset) (hex_number_read offset is)) refl short
spelled_reads (RegWrite offset value) fits is short =
    lone_line (hex_number (hex_number nothing)) RegWrite AsDriver (codes "write") _ _ (literal _ refl (omega arith))
    (hex_number_says (hex_number nothing) RegWrite offset (32 ∷ hex_number_text value) (RegWrite offset value) is.0
    (last_says Number hex_number_in (RegWrite offset) (hex_number_text value) value (hex_number_word value) (hex_number_read value is.1))) refl short
spelled_reads (RxPost slot handle) fits is short =
    let said = RxPost slot handle in
    lone_line (number (name (number nothing))) posted AsDriver (codes "rx") _ _ (literal _ refl (omega arith))
    (number_says (name (number nothing)) posted slot _ said is.0
    (name_says (number nothing) (posted slot) handle.name _ said is.1
    (last_says Number (number_in 4294967296) (posted slot handle.name) (decimal handle.turn) handle.turn (number_word handle.turn is.2) (number_read 4294967296 handle.turn is.2 (omega arith))))) refl short
spelled_reads RxBell fits is short = bell_line RxBell (codes "rx") (literal _ refl (omega arith)) refl short
spelled_reads (WireIn frame) fits is short =
    lone_line (hex nothing) WireIn AsWire (codes "in") _ _ (literal _ refl (omega arith)) (last_says Hex hex_in WireIn (hex_text frame) frame (hex_word frame is) (hex_read frame is)) refl short
spelled_reads (Fill who n place bytes) fits is short =
    let said = Fill who n place bytes in
    side_line (buffer (number (hex nothing))) Fill Net who (codes "fill") _ _ fits.0 (literal _ refl (omega arith))
    (buffer_says (number (hex nothing)) (Fill who) n _ said fits.1
    (number_says (hex nothing) (Fill who n) place _ said is.0 (last_hex (Fill who n place) bytes is.1))) refl short
spelled_reads (Submit who n len) fits is short =
    side_line (buffer (number nothing)) Submit Net who (codes "submit") _ _ fits.0 (literal _ refl (omega arith))
    (buffer_says (number nothing) (Submit who) n _ (Submit who n len) fits.1 (last_number (Submit who n) len is)) refl short
spelled_reads (TxPost slot send) fits is short =
    lone_line (number (number nothing)) TxPost AsDriver (codes "tx") _ _ (literal _ refl (omega arith))
    (number_says (number nothing) TxPost slot _ (TxPost slot send) is.0 (last_number (TxPost slot) send is.1)) refl short
spelled_reads TxBell fits is short = bell_line TxBell (codes "tx") (literal _ refl (omega arith)) refl short
spelled_reads WireOut fits is short = lone_line nothing WireOut AsWire (codes "out") [] WireOut (literal _ refl (omega arith)) (nothing_says WireOut) refl short
spelled_reads (Put who label bytes) fits is short =
    side_line (word (hex nothing)) Put Page who (codes "put") _ _ fits (literal _ refl (omega arith))
    (word_says (hex nothing) (Put who) label _ (Put who label bytes) is.0 (last_hex (Put who label) bytes is.1)) refl short
spelled_reads (Ask who label) fits is short =
    side_line (word nothing) Ask Page who (codes "ask") _ _ fits (literal _ refl (omega arith)) (last_says Number Some (Ask who) label label is refl) refl short
spelled_reads (StoreAnswer who request origin label version) fits is short =
    let said = StoreAnswer who request origin label version in
    lone_line (instance (number (word (word (number nothing))))) StoreAnswer AsStore (codes "answer") _ _ (literal _ refl (omega arith))
    (instance_says (number (word (word (number nothing)))) StoreAnswer who _ said fits
    (number_says (word (word (number nothing))) (StoreAnswer who) request _ said is.0
    (word_says (word (number nothing)) (StoreAnswer who request) origin _ said is.1
    (word_says (number nothing) (StoreAnswer who request origin) label _ said is.2 (last_number (StoreAnswer who request origin label) version is.3))))) refl short
spelled_reads (StoreNone who request) fits is short =
    lone_line (instance (number nothing)) StoreNone AsStore (codes "none") _ _ (literal _ refl (omega arith))
    (instance_says (number nothing) StoreNone who _ (StoreNone who request) fits (last_number (StoreNone who) request is)) refl short
spelled_reads (StoreLose origin label version) fits is short =
    let said = StoreLose origin label version in
    lone_line (word (word (number nothing))) StoreLose AsStore (codes "lose") _ _ (literal _ refl (omega arith))
    (word_says (word (number nothing)) StoreLose origin _ said is.0
    (word_says (number nothing) (StoreLose origin) label _ said is.1 (last_number (StoreLose origin label) version is.2))) refl short
