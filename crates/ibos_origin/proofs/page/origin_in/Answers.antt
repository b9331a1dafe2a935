use Rattle.std.proofs.Common.{◌∙◌}
use Rattle.ibos_origin.proofs.UrlFronts.{origin_fronts}
use Rattle.ibos_origin.proofs.page.origin_in.Goals as goal

pub returns : goal.returns
returns c = c.slice.ensures.value ∙ origin_fronts c.requires.parsed.0 c.args.url.now c.requires.parsed.1 c.requires.web c.requires.no_user
