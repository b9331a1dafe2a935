-- What a receive bell tells one instance.
use Rattle.std.proofs.Common.{◌≡◌, ◌≢◌, ℕ, List, [], ◌∷◌, ◌++◌, Bool, true, false, Option, Some, None, Ok, Err, Result, refl, sym, ◌∙◌, ap, subst}
use Rattle.std.specs.Prelude.{if◌then◌else◌, filter}
use Rattle.ibos_kinds.specs.declared.names.Endpoint.{Endpoint}
use Rattle.ibos_kinds.specs.declared.names.Handle.{Handle}
use Rattle.ibos_kinds.specs.declared.names.Instance.{Instance}
use Rattle.ibos_kinds.specs.declared.names.Local.{Local}
use Rattle.ibos_kinds.specs.declared.names.Proto.{Proto}
use Rattle.ibos_kinds.specs.declared.outcome.Item.{Item}
use Rattle.ibos_kinds.specs.declared.party.Party.TheVariants.{Page as PageOf}
use Rattle.ibos_kinds.specs.declared.rule.Rule.{Rule}
use Rattle.ibos_kinds.specs.Bells.{Aim, aim_of, at, bell, frame_item, frame_rule, heard_item, other_handles, unread_after, unread_then}
use Rattle.ibos_kinds.specs.Flows.{Bound}
use Rattle.ibos_kinds.specs.Parties.{is_to, same}
use Rattle.ibos_origin.specs.Pages.{Page}
use Rattle.ibos_model.specs.Network.{ear_with}
use Rattle.ibos_model.specs.OwnBell.{is_aimed, is_for, own_bell, own_heard, own_item, own_unread}
use Rattle.ibos_model.specs.Tabs.{Unborn, life_with, origin_with}
use Rattle.ibos_model.proofs.Equalities.{same-true, same-refl}

-- what the rest of the frames tells, whatever is unread
abbrev Rest : Local → Instance → (Instance → Option Bound) → List (List ℕ) → Type 0
Rest local p ears ws = (hs : List Handle) (unread : Instance → ℕ)
    → filter (is_to (PageOf p)) (bell local ears unread hs ws) ≡ own_bell local p (ears p) (unread p) (filter (is_for local p) ws)

other_item : (p who : Instance) (flow : ℕ) (w : List ℕ) (broken : Option Rule) (rest : List Item) → same who p ≡ false
    → filter (is_to (PageOf p)) (frame_item broken who flow w ∷ rest) ≡ filter (is_to (PageOf p)) rest
other_item p who flow w None rest other = rw other refl
other_item p who flow w (Some rule) rest other = refl

item_to_own : (p : Instance) (flow : ℕ) (w : List ℕ) (broken : Option Rule) (rest : List Item)
    → filter (is_to (PageOf p)) (frame_item broken p flow w ∷ rest) ≡ own_item broken p flow w ++ filter (is_to (PageOf p)) rest
item_to_own p flow w None rest = rw (same-refl p) refl
item_to_own p flow w (Some rule) rest = refl

-- one frame and the rest, by whose it is
frame_told : (local : Local) (p : Instance) (ears : Instance → Option Bound) (unread : Instance → ℕ) (hs : List Handle) (w : List ℕ) (ws : List (List ℕ))
    → (r : Result Aim Rule) (own : Bool) → is_aimed p r ≡ own → Rest local p ears ws
    → filter (is_to (PageOf p)) (heard_item ears unread w r ∷ bell local ears (unread_then ears unread r) hs ws)
    ≡ (if own then own_heard p (ears p) (unread p) w r ++ own_bell local p (ears p) (own_unread (ears p) (unread p) r) (filter (is_for local p) ws)
    else own_bell local p (ears p) (unread p) (filter (is_for local p) ws))
frame_told local p ears unread hs w ws (Err rule) true is rest = cc
frame_told local p ears unread hs w ws (Err rule) false is rest = rest hs unread
frame_told local p ears unread hs w ws (Ok aim) false other rest =
    other_item p aim.who aim.flow w (frame_rule (ears aim.who) (unread aim.who) aim) (bell local ears (unread_then ears unread (Ok aim)) hs ws) other
    ∙ rest hs (unread_then ears unread (Ok aim))
    ∙ rw other refl
frame_told local p ears unread hs w ws (Ok aim) true own rest =
    let P : Instance → Type 0 = λ q. filter (is_to (PageOf p)) (heard_item ears unread w (Ok (record aim { who = q })) ∷ bell local ears (unread_then ears unread (Ok (record aim { who = q }))) hs ws)
    ≡ own_heard p (ears p) (unread p) w (Ok (record aim { who = q })) ++ own_bell local p (ears p) (own_unread (ears p) (unread p) (Ok (record aim { who = q }))) (filter (is_for local p) ws) in
    subst P (sym (same-true aim.who p own)) (of_own (record aim { who = p }) (frame_rule (ears p) (unread p) aim))
  where
    of_own : (to : Aim) (broken : Option Rule) → filter (is_to (PageOf p)) (frame_item broken p to.flow w ∷ bell local ears (at p (unread_after broken (unread p)) unread) hs ws)
        ≡ own_item broken p to.flow w ++ own_bell local p (ears p) (unread_after broken (unread p)) (filter (is_for local p) ws)
    of_own to broken =
        let counted : at p (unread_after broken (unread p)) unread p ≡ unread_after broken (unread p) = rw (same-refl p) refl in
        item_to_own p to.flow w broken (bell local ears (at p (unread_after broken (unread p)) unread) hs ws)
        ∙ ap (λ items. own_item broken p to.flow w ++ items) (rest hs (at p (unread_after broken (unread p)) unread) ∙ ap (λ n. own_bell local p (ears p) n (filter (is_for local p) ws)) counted)

-- to an instance a bell tells what its own frames give
pub bell_told : (local : Local) (p : Instance) (ears : Instance → Option Bound) (unread : Instance → ℕ) (hs : List Handle) (ws : List (List ℕ))
    → filter (is_to (PageOf p)) (bell local ears unread hs ws) ≡ own_bell local p (ears p) (unread p) (filter (is_for local p) ws)
unfolding bell own_bell
bell_told local p ears unread hs [] = refl
bell_told local p ears unread hs (w ∷ ws) = by_aim (is_for local p w) refl (λ rest v. bell_told local p ears v rest ws)
  where
    by_aim : (own : Bool) → is_for local p w ≡ own → Rest local p ears ws
        → filter (is_to (PageOf p)) (bell local ears unread hs (w ∷ ws)) ≡ own_bell local p (ears p) (unread p) (if own then w ∷ filter (is_for local p) ws else filter (is_for local p) ws)
    by_aim true is rest = frame_told local p ears unread (other_handles hs) w ws (aim_of local w) true is rest
    by_aim false is rest = frame_told local p ears unread (other_handles hs) w ws (aim_of local w) false is rest

-- An instance hears by its origin's endpoint only while it lives, so an origin that suits it serves as well.
pub ear_same : (o : List ℕ) (endpoint : List ℕ → Endpoint) (flows : List (Option Proto)) (page : Option Page) (gone : Bool) → (life_with page gone ≢ Unborn → origin_with page ≡ o)
    → ear_with (life_with page gone) (endpoint (origin_with page)) flows ≡ ear_with (life_with page gone) (endpoint o) flows
ear_same o endpoint flows None gone suits = refl
ear_same o endpoint flows (Some page) true suits = refl
ear_same o endpoint flows (Some page) false suits = ap (λ origin. ear_with (life_with (Some page) false) (endpoint origin) flows) (suits (λ unborn. cc))
