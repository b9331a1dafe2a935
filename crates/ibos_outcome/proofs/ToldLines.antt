-- The pieces of lines, as their texts have them.
use Rattle.std.proofs.Common.{◌≡◌, ℕ, ◌+◌, ◌<◌, List, [], ◌∷◌, ◌++◌, true, false, length, refl, append_assoc, arith}
use Rattle.std.specs.Prelude.{◌==◌, codes, decimal}
use Rattle.std.proofs.lemmas.Bool.Decides.{nat_tests}
use Rattle.std.proofs.lemmas.Fmt.{decimal_digit}
use Rattle.std.proofs.lemmas.List.{append-nil}
use Rattle.hex.specs.Hex.{encode_lower, encode_with}
use Rattle.ibos_kinds.specs.declared.names.Instance.{Instance}
use Rattle.ibos_outcome.specs.Printed.{line_text, instance_text, hex_text, or_dash}

pub told_spelled : (digits : List ℕ) (who : Instance) (word told : List ℕ)
    → digits ++ [] ++ codes " " ++ instance_text who ++ word ++ told ++ codes "\n" ++ [] ++ [] ++ [] ++ [] ++ []
    ≡ line_text digits (instance_text who ++ word ++ told)
unfolding line_text
told_spelled digits who word told = simp (append_assoc, append-nil)

pub two_spelled : (digits : List ℕ) (who : Instance) (word first second : List ℕ)
    → digits ++ [] ++ codes " " ++ instance_text who ++ word ++ first ++ codes " " ++ second ++ codes "\n" ++ [] ++ [] ++ []
    ≡ line_text digits (instance_text who ++ word ++ first ++ codes " " ++ second)
unfolding line_text
two_spelled digits who word first second = simp (append_assoc, append-nil)

pub put_spelled : (digits origin label v l : List ℕ) (version len : ℕ) → v ≡ decimal version → l ≡ decimal len
    → digits ++ codes " store put " ++ origin ++ codes " " ++ label ++ codes " " ++ v ++ codes " " ++ l ++ codes "\n" ++ [] ++ []
    ≡ line_text digits (codes "store put " ++ origin ++ codes " " ++ label ++ codes " " ++ decimal version ++ codes " " ++ decimal len)
unfolding line_text
put_spelled digits origin label v l version len is_v is_l = rw (is_v, is_l) (simp (append_assoc, append-nil))

pub ask_spelled : (digits r origin label : List ℕ) (who : Instance) (request : ℕ) → r ≡ decimal request
    → digits ++ codes " store ask" ++ codes " " ++ instance_text who ++ codes " " ++ r ++ codes " " ++ origin ++ codes " " ++ label ++ codes "\n" ++ []
    ≡ line_text digits (codes "store ask " ++ instance_text who ++ codes " " ++ decimal request ++ codes " " ++ origin ++ codes " " ++ label)
unfolding line_text
ask_spelled digits r origin label who request is_r = rw is_r (simp (append_assoc, append-nil) refl)

pub frame_spelled : (digits f hex : List ℕ) (who : Instance) (flow : ℕ) → f ≡ decimal flow
    → digits ++ [] ++ codes " " ++ instance_text who ++ codes " frame " ++ f ++ codes " " ++ [] ++ [] ++ [] ++ [] ++ [] ++ (hex ++ codes "\n")
    ≡ line_text digits (instance_text who ++ codes " frame " ++ decimal flow ++ codes " " ++ hex)
unfolding line_text
frame_spelled digits f hex who flow is_f = rw is_f (simp (append_assoc, append-nil))

in_one_step : (digits said tab ord s hex : List ℕ)
    → digits ++ (codes " " ++ said) ++ s ++ codes " " ++ tab ++ codes "." ++ ord ++ codes " " ++ (hex ++ codes "\n")
    ≡ digits ++ codes " " ++ (said ++ s ++ codes " " ++ (tab ++ codes "." ++ ord) ++ codes " " ++ hex) ++ codes "\n"
in_one_step digits said tab ord s hex = simp append_assoc

pub accepted_spelled : (digits tab ord s hex : List ℕ) (who : Instance) (send : ℕ) → tab ≡ decimal who.tab → ord ≡ decimal who.ord → s ≡ decimal send
    → digits ++ codes " log frame " ++ s ++ codes " " ++ tab ++ codes "." ++ ord ++ codes " " ++ (hex ++ codes "\n")
    ≡ line_text digits (codes "log frame " ++ decimal send ++ codes " " ++ instance_text who ++ codes " " ++ hex)
unfolding line_text instance_text
accepted_spelled digits tab ord s hex who send is_tab is_ord is_s =
    rw (is_tab, is_ord, is_s) (in_one_step digits (codes "log frame ") (decimal who.tab) (decimal who.ord) (decimal send) hex)

pub object_spelled : (digits r v hex : List ℕ) (who : Instance) (request version : ℕ) → r ≡ decimal request → v ≡ decimal version
    → digits ++ [] ++ codes " " ++ instance_text who ++ codes " object " ++ r ++ codes " " ++ v ++ codes " " ++ [] ++ [] ++ [] ++ (hex ++ codes "\n")
    ≡ line_text digits (instance_text who ++ codes " object " ++ decimal request ++ codes " " ++ decimal version ++ codes " " ++ hex)
unfolding line_text
object_spelled digits r v hex who request version is_r is_v = rw (is_r, is_v) (simp (append_assoc, append-nil))

-- an instance whose numbers have one digit each
pub instance_spelled : (who : Instance) → who.tab < 10 → who.ord < 10
    → (32 ∷ (48 + who.tab) ∷ 46 ∷ (48 + who.ord) ∷ []) ++ [] ≡ codes " " ++ instance_text who
unfolding instance_text
instance_spelled who tab ord = rw (decimal_digit who.tab tab, decimal_digit who.ord ord) refl

pub dash_spelled : (bytes : List ℕ) → (length bytes == 0) ≡ true → codes "-" ≡ hex_text bytes
unfolding hex_text or_dash encode_with
dash_spelled [] none = refl
dash_spelled (b ∷ bytes) none = absurd (grind (arith, nat_tests, none))

pub digits_spelled : (bytes : List ℕ) → (length bytes == 0) ≡ false → encode_lower bytes ≡ hex_text bytes
unfolding hex_text or_dash encode_with
digits_spelled [] some = cc
digits_spelled (b ∷ bytes) some = refl
