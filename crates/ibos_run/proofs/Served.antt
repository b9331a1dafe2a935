-- One line of a script: what it leaves, from wherever the session stood.
use Rattle.std.proofs.Common.{◌≡◌, ℕ, List, Option, subst}
use Rattle.ibos_kinds.specs.declared.act.Act.{Act}
use Rattle.ibos_kernel.specs.Standing.{Agrees, Stands}
use Rattle.ibos_kernel.specs.Tables.{Tables}
use Rattle.ibos_model.specs.Journal.{Journal}
use Rattle.ibos_model.specs.Laws.{AreFrameFronts, AreFronts, AreSentFronts, AreSentInTurn, DoGoOn}
use Rattle.ibos_nic.specs.declared.log.LogEntry.{LogEntry}
use Rattle.ibos_nic.specs.Registers.{Registers}
use Rattle.ibos_run.specs.Readings.{Reading, onto_acts}
use Rattle.ibos_run.specs.Session.{IsCut, IsMade, IsServing, Serves, Stops}
use Rattle.ibos_run.proofs.Sessions.{agrees_there, cut_stopped, next_serving, paused}

-- its act was made
pub made_serves : DoGoOn → (left after : Reading) (now new : Option (List ℕ)) (gathered more : List ℕ) (k k' : Tables) (f f' : Registers) (l l' : List LogEntry) (act : Act)
    → left ≡ onto_acts act after → ((J : Journal) → Stands J k → Agrees k.hosts J f l → IsMade k.hosts J act now new gathered more k' f' l l') → k'.hosts ≡ k.hosts
    → Serves left after now new gathered more k k' f f' l l'
made_serves goes_on left after now new gathered more k k' f f' l l' act split made same = λ H whole first J serving.
    (_, next_serving goes_on H whole left after first now new gathered more k k' f f' l l' act J serving split (made J serving.stands (agrees_there H whole left first now gathered k f l J serving)) same)

-- its act was cut off
pub cut_stops : AreFronts → AreFrameFronts → AreSentFronts → AreSentInTurn → (left after : Reading) (now new : Option (List ℕ)) (gathered more : List ℕ) (k : Tables) (f : Registers) (l l' : List LogEntry) (act : Act)
    → left ≡ onto_acts act after → ((J : Journal) → Stands J k → Agrees k.hosts J f l → IsCut k.hosts J act now new gathered more l l')
    → Stops left now new gathered more k f l l'
cut_stops fronts frame_fronts sent_fronts in_turn left after now new gathered more k f l l' act split cut = λ H whole first J serving.
    cut_stopped fronts frame_fronts sent_fronts in_turn H whole left after first now new gathered more k f l l' act J serving split (cut J serving.stands (agrees_there H whole left first now gathered k f l J serving))

-- it made no act
pub none_serves : (left after : Reading) (now : Option (List ℕ)) (gathered : List ℕ) (k : Tables) (f : Registers) (l : List LogEntry) → left ≡ after → Serves left after now now gathered gathered k k f f l l
none_serves left after now gathered k f l same = λ H whole first J serving. (J, subst (λ (r : Reading). IsServing H whole r first now gathered k f l J) same serving)

-- it could not be read
pub none_stops : AreFronts → AreFrameFronts → AreSentFronts → (left : Reading) (now : Option (List ℕ)) (gathered : List ℕ) (k : Tables) (f : Registers) (l : List LogEntry) → Stops left now now gathered gathered k f l l
none_stops fronts frame_fronts sent_fronts left now gathered k f l = λ H whole first J serving. paused fronts frame_fronts sent_fronts H whole left first now gathered k f l J serving
