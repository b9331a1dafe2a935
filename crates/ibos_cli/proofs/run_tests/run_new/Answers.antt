use Rattle.ibos_cli.proofs.Counts.{counts_low}
use Rattle.ibos_cli.proofs.run_tests.run_new.Goals as goal

pub run-requires-clause-file_counts : goal.run-requires-clause-file_counts
run-requires-clause-file_counts g c = counts_low _ _ c.args.cabinet.now c.requires.held c.requires.other
