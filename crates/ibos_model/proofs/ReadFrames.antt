-- An instance is done with the frames that bells gave it in their order.
use Rattle.std.proofs.Common.{◌≡◌, ℕ, ◌+◌, ◌-◌, ◌≤◌, List, [], ◌∷◌, ◌++◌, Bool, true, false, ◌&&◌, refl, sym, ◌∙◌, ap, subst, arith, length, append-nil, drop}
use Rattle.std.specs.Prelude.{if◌then◌else◌}
use Rattle.std.proofs.lemmas.List.{drop-append-le, drop-drop, length-append, length-drop}
use Rattle.ibos_kinds.specs.declared.act.Act.{Act}
use Rattle.ibos_kinds.specs.declared.act.Act.TheVariants.{Done, RxBell}
use Rattle.ibos_kinds.specs.declared.names.Instance.{Instance}
use Rattle.ibos_origin.specs.Hosts.{HostTable}
use Rattle.ibos_model.specs.Journal.{Entry, Journal, is_ok, same}
use Rattle.ibos_model.specs.Laws.{AreReadInOrder}
use Rattle.ibos_model.specs.Network.{network}
use Rattle.ibos_model.specs.Outcomes.{admitted, done_outcome, out}
use Rattle.ibos_model.specs.Posts.{bell_frames, done_count, frames_for}
use Rattle.ibos_model.specs.Runs.{IsRun}
use Rattle.ibos_model.specs.Tabs.{Life, Unborn, Alive, Gone, life_of}
use Rattle.ibos_model.proofs.Entries.{as_entry, entry}
use Rattle.ibos_model.proofs.Equalities.{same-true}

-- what is unread, of all frames given, where it is done with so many
record IsLeft (unread given : List (List ℕ)) (count : ℕ) : Type 0 where
  left : unread ≡ drop count given
  within : count ≤ length given

no_more : (unread given : List (List ℕ)) (count : ℕ) → IsLeft unread given count → IsLeft unread (given ++ []) count
no_more unread given count is = subst (λ ws. IsLeft unread ws count) (sym (append-nil given)) is

more_given : (unread given more : List (List ℕ)) (count : ℕ) → IsLeft unread given count → IsLeft (unread ++ more) (given ++ more) count
more_given unread given more count is = record {
  left = ap (λ ws. ws ++ more) is.left ∙ sym (drop-append-le count given more is.within);
  within = subst (λ n. count ≤ n) (sym (length-append given more)) (omega (arith, is.within));
}

-- one more is done with, where there is one
one_done : (unread given : List (List ℕ)) (count : ℕ) (own ok : Bool) → (own ≡ true → ok ≡ true → 1 ≤ length unread) → IsLeft unread given count
    → IsLeft (if own && ok then drop 1 unread else unread) (given ++ []) (if own && ok then count + 1 else count)
one_done unread given count true true some is =
    let size : length unread ≡ length given - count = ap length is.left ∙ length-drop count given in
    subst (λ ws. IsLeft (drop 1 unread) ws (count + 1)) (sym (append-nil given)) (record {
      left = ap (drop 1) is.left ∙ drop-drop 1 count given;
      within = omega (arith, some refl refl, size, is.within);
    })
one_done unread given count true false some is = no_more unread given count is
one_done unread given count false ok some is = no_more unread given count is

done_some : (life : Life) (unread : List (List ℕ)) → is_ok (admitted life (done_outcome unread)).head ≡ true → 1 ≤ length unread
done_some Unborn unread ok = cc
done_some Gone unread ok = cc
done_some Alive [] ok = cc
done_some Alive (w ∷ ws) ok = omega arith

entry_left : (H : HostTable) (J : Journal) (p : Instance) (a : Act) (w : List ℕ) → IsLeft ((network J).unread p) (frames_for p J) (done_count p J)
    → IsLeft ((network (entry H J a w ∷ J)).unread p) (frames_for p (entry H J a w ∷ J)) (done_count p (entry H J a w ∷ J))
unfolding network
entry_left H J p (Done who) w is = one_done ((network J).unread p) (frames_for p J) (done_count p J) (same who p) (is_ok (out H J (Done who)).head) some is
  where
    some : same who p ≡ true → is_ok (out H J (Done who)).head ≡ true → 1 ≤ length ((network J).unread p)
    some own ok = subst (λ q. 1 ≤ length ((network J).unread q)) (same-true who p own) (done_some (life_of H J who) ((network J).unread who) ok)
entry_left H J p RxBell w is = more_given ((network J).unread p) (frames_for p J) (bell_frames p true RxBell (out H J RxBell).items) (done_count p J) is
entry_left H J p other w is = no_more ((network J).unread p) (frames_for p J) (done_count p J) is

all_left : (H : HostTable) (J : Journal) (p : Instance) → IsRun H J → IsLeft ((network J).unread p) (frames_for p J) (done_count p J)
unfolding network
all_left H [] p run = record { left = refl; within = omega arith }
all_left H (e ∷ J) p run =
    let P : Entry → Type 0 = λ x. IsLeft ((network (x ∷ J)).unread p) (frames_for p (x ∷ J)) (done_count p (x ∷ J)) in
    subst P (as_entry H J e run.0.outcome) (entry_left H J p e.act e.written (all_left H J p run.1))

pub read_in_order : AreReadInOrder
read_in_order H J p run = (all_left H J p run).left
