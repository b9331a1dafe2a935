use Rattle.ibos_cookie.proofs.Finding.{put_inserted}
use Rattle.ibos_cookie.proofs.jars.Jars.put_jar.Goals as goal

pub returns-clause-ok : goal.returns-clause-ok
returns-clause-ok c =
    put_inserted c.args.self.now c.args.origin.now c.args.jar c.in_ok-from_slice.field-0 c.self.inside.jars.entries c.insert.new.self.entries c.in_ok-insert.ensures.entries c.in_ok-from_slice.ensures.items c.self.view_is
