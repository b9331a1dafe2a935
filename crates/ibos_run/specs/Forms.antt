-- What values of the code stand for: what words ask for, and the file that a refusal names.
use Rattle.std.specs.Prelude.{◌≤◌}
use Rattle.std.specs.Option.{option_copied}
use Rattle.ibos_run.specs.Refusals as spec
use Rattle.ibos_run.specs.Words as words
use Rattle.ibos_run.specs.declared.run_words.Form.{Form}
use Rattle.ibos_run.specs.declared.run_words.Form.TheVariants.{Files, Rounds}
use Rattle.ibos_run.specs.declared.texts.File.{File}
use Rattle.ibos_run.specs.declared.texts.File.TheVariants.{Hosts, Capture, Script}

abbrev pub form_of : Form → words.Form
form_of (Files hosts script capture) = words.Files hosts.now script.now (option_copied capture)
form_of (Rounds seed rounds) = words.Rounds seed rounds

abbrev pub file_of : File → spec.File
file_of Hosts = spec.Hosts
file_of Capture = spec.Capture
file_of Script = spec.Script

-- a drill has at most 100,000 rounds
abbrev pub IsBounded : Form → Type 0
IsBounded (Files hosts script capture) = Unit {0}
IsBounded (Rounds seed rounds) = rounds ≤ 100000
