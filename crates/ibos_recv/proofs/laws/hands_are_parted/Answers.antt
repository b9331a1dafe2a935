use Rattle.ibos_pool.proofs.HandLemmas.{not_true}
use Rattle.ibos_recv.proofs.PartedHands.{back_of, front_of, kept_in, none_shared, swapped}
use Rattle.ibos_recv.proofs.laws.hands_are_parted.Goals as goal

pub returns-clause-front : goal.returns-clause-front
returns-clause-front c = front_of

pub returns-clause-back : goal.returns-clause-back
returns-clause-back c = back_of

pub returns-clause-swapped : goal.returns-clause-swapped
returns-clause-swapped c = swapped

pub returns-clause-kept : goal.returns-clause-kept
returns-clause-kept c = kept_in

pub returns-clause-apart : goal.returns-clause-apart
returns-clause-apart c names mem held more p hands is = not_true _ (λ is'. none_shared names mem held more hands p is is')
