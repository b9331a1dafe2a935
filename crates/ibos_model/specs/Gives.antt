-- What the facts give to the instance, and what a journal delivers to it.
use Rattle.std.specs.Prelude.{ℕ, ◌+◌, Result, Ok, Err, bytes_eq, nat_lt, List, [], ◌∷◌, ◌++◌, true}
use Rattle.std.specs.Prelude.{false, Bool, length, map, Option, Some, None, unwrap_or}
use Rattle.std.specs.Prelude.{if◌then◌else◌}
use Rattle.ibos_kinds.specs.declared.names.Instance.{Instance}
use Rattle.ibos_kinds.specs.declared.act.Act.{Act}
use Rattle.ibos_kinds.specs.declared.names.Proto.{Proto}
use Rattle.ibos_kinds.specs.declared.rule.Rule.{Rule}
use Rattle.ibos_kinds.specs.declared.outcome.Item.{Item}
use Rattle.ibos_kinds.specs.declared.act.Act.TheVariants.{Go, Draw, CookieSet, CookieGet}
use Rattle.ibos_kinds.specs.declared.act.Act.TheVariants.{Bind, Unbind, Done, Fill, Submit, Put}
use Rattle.ibos_kinds.specs.declared.act.Act.TheVariants.{Ask}
use Rattle.ibos_kinds.specs.declared.outcome.Item.TheVariants.{Opened as ItemOpened, Moved, Ended}
use Rattle.ibos_kinds.specs.declared.outcome.Item.TheVariants.{KeyTo, ClickTo, Home, Object}
use Rattle.ibos_kinds.specs.declared.outcome.Item.TheVariants.{NoObject}
use Rattle.ibos_kinds.specs.declared.outcome.Outcome.{Outcome}
use Rattle.ibos_kinds.specs.declared.cookies.Cookie.{Cookie}
use Rattle.ibos_kinds.specs.Bells.{frames_in}
use Rattle.ibos_kinds.specs.Flows.{Bound}
use Rattle.ibos_kinds.specs.Objects.{KeyObject, Newest, newest_in, with_put}
use Rattle.ibos_kinds.specs.Requests.{Requests, key_in, no_requests, without_request}
use Rattle.ibos_kinds.specs.Sends.{fresh_buffer}
use Rattle.ibos_origin.specs.Hosts.{HostTable}
use Rattle.ibos_origin.specs.Pages.{Page, allowed}
use Rattle.ibos_model.specs.Journal.{is_ok}
use Rattle.ibos_model.specs.Tabs.{Life, Unborn, Alive, Gone}
use Rattle.ibos_model.specs.Jars.{with_set}
use Rattle.ibos_model.specs.Network.{at_buffer, away_by, bound_to, buffers_by, ear_with}
use Rattle.ibos_model.specs.Network.{endpoint_for, flows_by, unread_by}
use Rattle.ibos_model.specs.Stored.{requests_by}
use Rattle.ibos_model.specs.OwnBell.{own_bell}
use Rattle.ibos_model.specs.Outcomes.{accepted, admitted, go_outcome, draw_outcome, set_outcome}
use Rattle.ibos_model.specs.Outcomes.{get_outcome, bind_outcome, unbind_outcome, done_outcome}
use Rattle.ibos_model.specs.Outcomes.{ask_outcome, fill_outcome, put_outcome, submitted_outcome}
use Rattle.ibos_kinds.specs.declared.party.Party.TheVariants.{Page as PageOf}
use Rattle.ibos_model.specs.Folds.{counted, given}
use Rattle.ibos_model.specs.Delivered.{Delivery, Answer, Told, told}
use Rattle.ibos_model.specs.Facts.{Fact, Opened, IsAt, IsEnded, Own, KeyHit, ClickHit, OtherSet}
use Rattle.ibos_model.specs.Facts.{OtherPut, Frame, Bell, HomeOf, Answered, NoneFor}

-- what is counted for the instance
pub record Mine : Type 0 where
  pub life : Life
  pub sets : List Cookie
  pub flows : List (Option Proto)
  pub unread : List (List ℕ)
  -- the frames for its ports since the last receive bell
  pub pending : List (List ℕ)
  -- what stands in its transmit buffers, and which of them are away
  pub buffers : ℕ → List ℕ
  pub away : ℕ → Bool
  -- what its origin stored, and its requests
  pub objects : List KeyObject
  pub requests : Requests

abbrev pub newborn : Mine
newborn = record {
  life = Unborn;
  sets = [];
  flows = [];
  unread = [];
  pending = [];
  buffers = λ b. fresh_buffer;
  away = λ b. false;
  objects = [];
  requests = no_requests;
}

-- what it has bound, to the endpoint of its origin
abbrev pub own_bound : HostTable → List ℕ → Mine → Bound
own_bound H o m = bound_to (endpoint_for H o) m.flows

-- The outcome of one of its acts where it lives; a next instance is of its tab. The number of a
-- send, which it is not told, is any.
abbrev pub own_outcome : HostTable → List ℕ → Act → Mine → Outcome
own_outcome H o (CookieSet side who text) m = set_outcome text m.sets
own_outcome H o (CookieGet side who) m = get_outcome who m.sets
own_outcome H o (Go who url) m = go_outcome who o (record { tab = who.tab; ord = who.ord + 1 })
    (allowed H url)
own_outcome H o (Draw who row col height width pixels) m = draw_outcome row col height width pixels
own_outcome H o (Bind who proto) m = bind_outcome who (own_bound H o m)
own_outcome H o (Unbind who flow) m = unbind_outcome (own_bound H o m) flow
own_outcome H o (Done who) m = done_outcome m.unread
own_outcome H o (Fill who buffer place bytes) m = fill_outcome (m.away buffer) place bytes
own_outcome H o (Submit who buffer len) m = submitted_outcome H.local 0 who (own_bound H o m)
    (m.away buffer) len (m.buffers buffer)
own_outcome H o (Put who key bytes) m = put_outcome who o key bytes m.objects
own_outcome H o (Ask who key) m = ask_outcome who o key m.requests
own_outcome H o other m = accepted []

-- the outcome of one of its acts
abbrev pub own_out : HostTable → List ℕ → Act → Mine → Outcome
own_out H o a m = admitted m.life (own_outcome H o a m)

abbrev pub life_after_go : Instance → List ℕ → Result Page Rule → Life
life_after_go who o (Ok page) = if bytes_eq page.origin o then Alive else if nat_lt who.ord 31
    then Gone else Alive
life_after_go who o (Err rule) = Alive

abbrev pub life_after : Instance → List ℕ → Result Page Rule → Life → Life
life_after who o r Unborn = Unborn
life_after who o r Alive = life_after_go who o r
life_after who o r Gone = Gone

-- no buffer of an instance that ended is asked for
abbrev pub away_with : Life → (ℕ → Bool) → ℕ → Bool
away_with Gone away b = false
away_with life away b = away b

-- what one of its acts changes
abbrev pub own_after : HostTable → List ℕ → Act → Mine → Mine
own_after H o (CookieSet side who text) m = record m
    { sets = with_set (is_ok (own_out H o (CookieSet side who text) m).head) text m.sets }
own_after H o (Go who url) m = record m {
  life = life_after who o (allowed H url) m.life;
  away = away_with (life_after who o (allowed H url) m.life) m.away;
}
own_after H o (Bind who proto) m = record m
    { flows = flows_by true (is_ok (own_out H o (Bind who proto) m).head) (Bind who proto) m.flows }
own_after H o (Unbind who flow) m = record m {
  flows = flows_by true (is_ok (own_out H o (Unbind who flow) m).head) (Unbind who flow)
      m.flows;
}
own_after H o (Done who) m = record m
    { unread = unread_by true (is_ok (own_out H o (Done who) m).head) (Done who) [] m.unread }
own_after H o (Fill who buffer place bytes) m = record m {
  buffers = buffers_by true (is_ok (own_out H o (Fill who buffer place bytes) m).head)
      (Fill who buffer place bytes) m.buffers;
}
own_after H o (Submit who buffer len) m = record m {
  away = away_by true (is_ok (own_out H o (Submit who buffer len) m).head)
      (Submit who buffer len) [] m.away;
}
own_after H o (Put who key bytes) m = record m {
  objects = if is_ok (own_out H o (Put who key bytes) m).head then with_put key bytes m.objects
      else m.objects;
}
own_after H o (Ask who key) m = record m {
  requests = requests_by true (is_ok (own_out H o (Ask who key) m).head) (Ask who key)
      m.requests;
}
own_after H o other m = m

-- what a receive bell gives it
abbrev pub bell_for : HostTable → Instance → List ℕ → Mine → List Item
bell_for H p o m = own_bell H.local p (ear_with m.life (endpoint_for H o) m.flows)
    (length m.unread) m.pending

-- the newest version under the key of a request
abbrev pub newest_item : Instance → ℕ → Option Newest → List Item
newest_item p request None = []
newest_item p request (Some newest) =
    Object p request newest.version (unwrap_or newest.bytes []) ∷ []

abbrev pub answered_items : Instance → ℕ → Option (List ℕ) → List KeyObject → List Item
answered_items p request None objects = []
answered_items p request (Some key) objects = newest_item p request (newest_in objects key)

-- what a fact gives, and what is counted after it
abbrev pub deliveries : HostTable → Instance → List ℕ → Mine → Fact → List Delivery
deliveries H p o m (Opened url) = Told (ItemOpened p url) ∷ []
deliveries H p o m (IsAt url) = Told (Moved p url) ∷ []
deliveries H p o m IsEnded = Told (Ended p) ∷ []
deliveries H p o m (Own a) = Answer (own_out H o a m).head ∷ told (PageOf p) (own_out H o a m).items
deliveries H p o m (KeyHit byte) = Told (KeyTo p byte) ∷ []
deliveries H p o m (ClickHit row col) = Told (ClickTo p row col) ∷ []
deliveries H p o m (OtherSet text) = []
deliveries H p o m (Frame w) = []
deliveries H p o m Bell = map Told (bell_for H p o m)
deliveries H p o m (OtherPut key bytes) = []
deliveries H p o m (HomeOf buffer) = Told (Home p buffer) ∷ []
deliveries H p o m (Answered request) =
    map Told (answered_items p request (key_in m.requests request) m.objects)
deliveries H p o m (NoneFor request) = Told (NoObject p request) ∷ []

abbrev pub mine_after : HostTable → Instance → List ℕ → Mine → Fact → Mine
mine_after H p o m (Opened url) = record m { life = Alive }
mine_after H p o m (IsAt url) = m
mine_after H p o m IsEnded = record m { life = Gone; away = λ b. false }
mine_after H p o m (Own a) = own_after H o a m
mine_after H p o m (KeyHit byte) = m
mine_after H p o m (ClickHit row col) = m
mine_after H p o m (OtherSet text) = record m { sets = with_set true text m.sets }
mine_after H p o m (Frame w) = record m { pending = m.pending ++ w ∷ [] }
mine_after H p o m Bell = record m {
  unread = m.unread ++ frames_in (bell_for H p o m);
  pending = [];
}
mine_after H p o m (OtherPut key bytes) = record m { objects = with_put key bytes m.objects }
mine_after H p o m (HomeOf buffer) = record m { away = at_buffer buffer false m.away }
mine_after H p o m (Answered request) = record m { requests = without_request request m.requests }
mine_after H p o m (NoneFor request) = record m { requests = without_request request m.requests }

abbrev pub gives_from : HostTable → Instance → List ℕ → Mine → List Fact → List Delivery
gives_from H p o m fs = given (deliveries H p o) (mine_after H p o) m fs

abbrev pub mine_from : HostTable → Instance → List ℕ → Mine → List Fact → Mine
mine_from H p o m fs = counted (mine_after H p o) m fs

abbrev pub gives : HostTable → Instance → List ℕ → List Fact → List Delivery
gives H p o fs = gives_from H p o newborn fs
