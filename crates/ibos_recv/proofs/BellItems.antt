-- One step of a receive bell: what is told.
use Rattle.std.proofs.Common.{◌≡◌, ℕ, Bool, true, false, cond, List, [], ◌∷◌, ◌++◌, map, Option, Result, Ok, Err, refl, sym, ◌∙◌, ap}
use Rattle.std.specs.List.{filter}
use Rattle.std.proofs.lemmas.List.{append-nil, append_assoc}
use Rattle.ibos_kinds.specs.declared.names.Handle.{Handle}
use Rattle.ibos_kinds.specs.declared.names.Local.{Local}
use Rattle.ibos_kinds.specs.declared.outcome.Item.{Item}
use Rattle.ibos_kinds.specs.declared.outcome.Item.TheVariants.{LentIs}
use Rattle.ibos_kinds.specs.declared.party.Party.TheVariants.{Page}
use Rattle.ibos_kinds.specs.declared.rule.Rule.{Rule}
use Rattle.ibos_kinds.specs.Bells.{Aim, aim_of, bell, frame_in, frames_in, heard_item, unread_then}
use Rattle.ibos_kinds.specs.Flows.{Bound}
use Rattle.ibos_kinds.specs.Parties.{is_to}
use Rattle.ibos_mediate.specs.Frames.{Arrival, arrivals}
use Rattle.ibos_recv.proofs.BellSteps.{State}
use Rattle.ibos_recv.proofs.Landings.{landing_is}
use Rattle.ibos_recv.proofs.Hearings.{frames_for, heard-own}
use Rattle.ibos_recv.proofs.Words.{Held, Instance, IsSpent, Name, Names, bell_over, frames_of, held_in, landing, place_of, unread_of}

module _ (local : Local) (ears : Instance → Option Bound) where
  -- the item of a frame
  abbrev pub item_of : (Instance → ℕ) → Arrival → Item
  item_of unread a = heard_item ears unread a.bytes (aim_of local a.bytes)

  bell-none : (unread : Instance → ℕ) → bell_over local ears unread [] ≡ []
  unfolding bell
  bell-none unread = refl

  bell-more : (unread : Instance → ℕ) (a : Arrival) (rs : List Arrival) → bell_over local ears unread (a ∷ rs) ≡ LentIs a.handle ∷ item_of unread a ∷ bell_over local ears (unread_then ears unread (aim_of local a.bytes)) rs
  unfolding bell
  bell-more unread a rs = refl

  -- What is told already, and what is still to be told, are all.
  pub record IsTold (first now : State) (before after : List Item) : Type 0 where
    pub items : before ++ bell_over local ears (unread_of first.inboxes) (arrivals first.mem first.med) ≡ after ++ bell_over local ears (unread_of now.inboxes) (arrivals now.mem now.med)
    pub frames : (p : Instance) → frames_of first.mem first.inboxes p ++ frames_for p (bell_over local ears (unread_of first.inboxes) (arrivals first.mem first.med))
        ≡ frames_of now.mem now.inboxes p ++ frames_for p (bell_over local ears (unread_of now.inboxes) (arrivals now.mem now.med))

  pub told-begins : (s : State) (items : List Item) → IsTold s s items items
  told-begins s items = record { items = refl; frames = λ p. refl }

  frames-in : (b : Bool) (i : Item) (rest : List Item) → frames_in (cond b (i ∷ rest) rest) ≡ frames_in (cond b (i ∷ []) []) ++ frames_in rest
  frames-in true i rest = ap (λ fs. fs ++ frames_in rest) (sym (append-nil (frame_in i)))
  frames-in false i rest = refl

  frames-more : (p : Instance) (i : Item) (rest : List Item) → frames_for p (i ∷ rest) ≡ frames_for p (i ∷ []) ++ frames_for p rest
  frames-more p i rest = frames-in (is_to (Page p) i) i (filter (is_to (Page p)) rest)

  -- a bell over counts that are the same
  abbrev pub BellsAgree : Type 0
  BellsAgree = (unread unread' : Instance → ℕ) → ((p : Instance) → unread' p ≡ unread p) → (handles : List Handle) (frames : List (List ℕ)) → bell local ears unread' handles frames ≡ bell local ears unread handles frames

  -- the items of one frame, and those of the others
  bell-step : BellsAgree → (now next : State) (a : Arrival) → arrivals now.mem now.med ≡ a ∷ arrivals next.mem next.med → ((p : Instance) → unread_of next.inboxes p ≡ unread_then ears (unread_of now.inboxes) (aim_of local a.bytes) p)
      → bell_over local ears (unread_of now.inboxes) (arrivals now.mem now.med) ≡ LentIs a.handle ∷ item_of (unread_of now.inboxes) a ∷ bell_over local ears (unread_of next.inboxes) (arrivals next.mem next.med)
  bell-step same now next a arrived unread = ap (λ rs. bell_over local ears (unread_of now.inboxes) rs) arrived ∙ bell-more (unread_of now.inboxes) a (arrivals next.mem next.med)
      ∙ ap (λ is. LentIs a.handle ∷ item_of (unread_of now.inboxes) a ∷ is) (sym (same (unread_then ears (unread_of now.inboxes) (aim_of local a.bytes)) (unread_of next.inboxes) unread
      (map (λ (x : Arrival). x.handle) (arrivals next.mem next.med)) (map (λ (x : Arrival). x.bytes) (arrivals next.mem next.med))))

  -- Where no frame is delivered, no place changes.
  abbrev pub IsStill : State → State → Type 0
  IsStill first now = frames_in (bell_over local ears (unread_of first.inboxes) (arrivals first.mem first.med)) ≡ []
      → (frames_in (bell_over local ears (unread_of now.inboxes) (arrivals now.mem now.med)) ≡ []) × ((name : Name) → place_of now.pool name ≡ place_of first.pool name)

  pub still-begins : (s : State) → IsStill s s
  still-begins s none = (none, λ name. refl)

  none-before : (fs rest : List (List ℕ)) → fs ++ rest ≡ [] → (fs ≡ []) × (rest ≡ [])
  none-before [] rest none = (refl, none)
  none-before (f ∷ fs) rest none = let no : f ∷ (fs ++ rest) ≡ [] = none in absurd cc

  spent-still : (r : Result (Instance × ℕ) Rule) (unread : Instance → ℕ) (w : List ℕ) (aim : Result Aim Rule) (h : Held) (held held' : List Held) (pool pool' : Names) → landing_is r ≡ landing ears unread aim → frame_in (heard_item ears unread w aim) ≡ []
      → IsSpent r h held held' pool pool' → (name : Name) → place_of pool' name ≡ place_of pool name
  spent-still (Ok r) unread w aim h held held' pool pool' lands none spent name =
      let arrived : w ∷ [] ≡ [] = ap frame_in (sym (heard-own ears unread w r aim lands)) ∙ none in absurd cc
  spent-still (Err rule) unread w aim h held held' pool pool' lands none spent name = spent.1.places name

  pub still-step : BellsAgree → (first now next : State) (h : Held) (a : Arrival) → arrivals now.mem now.med ≡ a ∷ arrivals next.mem next.med → ((p : Instance) → unread_of next.inboxes p ≡ unread_then ears (unread_of now.inboxes) (aim_of local a.bytes) p)
      → IsSpent (landing ears (unread_of now.inboxes) (aim_of local a.bytes)) h (held_in now.inboxes) (held_in next.inboxes) now.pool next.pool → IsStill first now → IsStill first next
  still-step same first now next h a arrived unread spent still none =
      let was = still none in
      let parts = none-before (frame_in (item_of (unread_of now.inboxes) a)) (frames_in (bell_over local ears (unread_of next.inboxes) (arrivals next.mem next.med))) (sym (ap frames_in (bell-step same now next a arrived unread)) ∙ was.0) in (
        parts.1,
        λ name. spent-still (landing ears (unread_of now.inboxes) (aim_of local a.bytes)) (unread_of now.inboxes) a.bytes (aim_of local a.bytes) h (held_in now.inboxes) (held_in next.inboxes) now.pool next.pool refl parts.0 spent name ∙ was.1 name,
      )

  -- a frame more is told
  pub told-step : BellsAgree
      → (first now next : State) (items items' items'' : List Item) (a : Arrival) → arrivals now.mem now.med ≡ a ∷ arrivals next.mem next.med
      → items'' ≡ items' ++ LentIs a.handle ∷ item_of (unread_of now.inboxes) a ∷ []
      → ((p : Instance) → unread_of next.inboxes p ≡ unread_then ears (unread_of now.inboxes) (aim_of local a.bytes) p)
      → ((p : Instance) → frames_of next.mem next.inboxes p ≡ frames_of now.mem now.inboxes p ++ frames_for p (item_of (unread_of now.inboxes) a ∷ []))
      → IsTold first now items items' → IsTold first next items items''
  told-step same first now next items items' items'' a arrived pushed unread frames told = record {
    items = told.items ∙ ap (λ is. items' ++ is) whole ∙ sym (append_assoc items' (LentIs a.handle ∷ item_of (unread_of now.inboxes) a ∷ []) rest) ∙ ap (λ is. is ++ rest) (sym pushed);
    frames = λ p. told.frames p ∙ ap (λ is. frames_of now.mem now.inboxes p ++ frames_for p is) whole
        ∙ ap (λ fs. frames_of now.mem now.inboxes p ++ fs) (frames-more p (item_of (unread_of now.inboxes) a) rest)
        ∙ sym (append_assoc (frames_of now.mem now.inboxes p) (frames_for p (item_of (unread_of now.inboxes) a ∷ [])) (frames_for p rest))
        ∙ ap (λ fs. fs ++ frames_for p rest) (sym (frames p));
  }
    where
      rest : List Item
      rest = bell_over local ears (unread_of next.inboxes) (arrivals next.mem next.med)

      whole : bell_over local ears (unread_of now.inboxes) (arrivals now.mem now.med) ≡ LentIs a.handle ∷ item_of (unread_of now.inboxes) a ∷ rest
      whole = bell-step same now next a arrived unread

  -- nothing is left to be told
  pub told-items : (first now : State) (items items' : List Item) → arrivals now.mem now.med ≡ [] → IsTold first now items items' → items' ≡ items ++ bell_over local ears (unread_of first.inboxes) (arrivals first.mem first.med)
  told-items first now items items' none told = sym (told.items ∙ ap (λ rs. items' ++ bell_over local ears (unread_of now.inboxes) rs) none ∙ ap (λ is. items' ++ is) (bell-none (unread_of now.inboxes)) ∙ append-nil items')

  pub told-frames : (first now : State) (items items' : List Item) → arrivals now.mem now.med ≡ [] → IsTold first now items items' → (p : Instance)
      → frames_of now.mem now.inboxes p ≡ frames_of first.mem first.inboxes p ++ frames_for p (bell_over local ears (unread_of first.inboxes) (arrivals first.mem first.med))
  told-frames first now items items' none told p = sym (told.frames p ∙ ap (λ rs. frames_of now.mem now.inboxes p ++ frames_for p (bell_over local ears (unread_of now.inboxes) rs)) none
      ∙ ap (λ is. frames_of now.mem now.inboxes p ++ frames_for p is) (bell-none (unread_of now.inboxes)) ∙ append-nil (frames_of now.mem now.inboxes p))
