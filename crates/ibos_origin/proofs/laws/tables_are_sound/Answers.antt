use Rattle.ibos_origin.proofs.SoundTables as sound
use Rattle.ibos_origin.proofs.laws.tables_are_sound.Goals as goal

pub returns : goal.returns
returns c = sound.tables_are_sound
