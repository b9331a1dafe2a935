use Rattle.ibos_page.proofs.tabs.Tabs.active.Goals as goal

pub count-requires : goal.count-requires
count-requires c = (c.self.invariant.shown c.in_ok-tab.tab c.in_ok-tab.was).0
