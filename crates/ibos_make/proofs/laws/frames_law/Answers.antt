use Rattle.std.proofs.Common.{ap, sym, ◌∙◌}
use Rattle.ibos_kinds.specs.Datagrams.{parts_of, parts_heading}
use Rattle.ibos_make.proofs.Joined.{none_broken, parts_read, heading-parts}
use Rattle.ibos_make.proofs.Spelled.{spelled}
use Rattle.ibos_make.proofs.laws.frames_law.Goals as goal

pub returns-clause-sound : goal.returns-clause-sound
returns-clause-sound c = λ local dir w bytes.
    (λ none. (parts_of w, spelled local dir w bytes none), λ (p, is). none_broken local dir w p is)

pub returns-clause-unique : goal.returns-clause-unique
returns-clause-unique c = λ local dir w p q is also.
    parts_read local dir w p is ∙ sym (parts_read local dir w q also)

pub returns-clause-read : goal.returns-clause-read
returns-clause-read c = parts_read

pub returns-clause-heading : goal.returns-clause-heading
returns-clause-heading c = λ local dir w p is.
    heading-parts dir w ∙ ap (parts_heading dir) (sym (parts_read local dir w p is))
