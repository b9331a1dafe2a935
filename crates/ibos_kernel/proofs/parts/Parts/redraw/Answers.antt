use Rattle.std.proofs.Common.{◌≡◌, ℕ, ◌<◌, false, sym, ◌∙◌, ap, subst, arith}
use Rattle.ibos_kinds.specs.Screens.{padded}
use Rattle.ibos_page.specs.Tabs.{active_in}
use Rattle.ibos_frame.specs.ScreenStates.{chrome_at, line_of}
use Rattle.ibos_model.specs.Screen.{state_text, entry_line_text}
use Rattle.ibos_kernel.specs.DamagedRows.{is_damaged}
use Rattle.ibos_kernel.specs.Tables.{Parts, bar_at, chrome_by, is_entry}
use Rattle.ibos_kernel.proofs.ChromeRows.{rows_composed}
use Rattle.ibos_kernel.proofs.parts.Parts.redraw.Goals as goal

pub returns-clause-composed : goal.returns-clause-composed
returns-clause-composed c =
    let who = c.active-active.ensures.who in
    let tabs = c.self.inside.tabs in
    let focus = c.self.inside.focus in
    record {
      shown = c.write_entry.ensures.shown ∙ c.write_bar.ensures.shown ∙ c.write_state.ensures.shown ∙ c.show.ensures.shown ∙ who;
      chrome = rows_composed tabs focus c.write_state.new.screen c.write_bar.new.screen c.write_entry.new.screen (state_text c.active-active.result (is_entry c.spot.result)) (bar_at tabs c.active-active.result) (entry_line_text c.entry.result.now)
          c.write_state.ensures.row (ap (λ a. state_text a (is_entry c.spot.result)) who ∙ ap (λ s. state_text (active_in tabs) (is_entry s)) c.spot.ensures)
          c.write_bar.ensures.row (ap (bar_at tabs) who) c.write_bar.ensures.rows
          c.write_entry.ensures.row (ap entry_line_text c.entry.ensures.value) c.write_entry.ensures.rows;
    }

pub write_bar-requires-clause-kept : goal.write_bar-requires-clause-kept
write_bar-requires-clause-kept c none =
    let P : Parts → Type 0 = λ p. (r : ℕ) → r < 3 → is_damaged c.args.damage r ≡ false → chrome_at p.screen r ≡ padded (chrome_by p.tabs p.focus r) in
    let rest = subst P (sym c.self.view_is) c.requires.rest in
    c.write_state.ensures.rows 1 (omega arith) (λ e. cc) ∙ ap (λ pixels. line_of pixels 1) c.show.ensures.chrome ∙ rest 1 (omega arith) none ∙ ap padded (sym (ap (bar_at c.self.inside.tabs) c.active-active.ensures.who))

pub write_entry-requires : goal.write_entry-requires
write_entry-requires c = record {
  kept = λ none.
      let P : Parts → Type 0 = λ p. (r : ℕ) → r < 3 → is_damaged c.args.damage r ≡ false → chrome_at p.screen r ≡ padded (chrome_by p.tabs p.focus r) in
      let rest = subst P (sym c.self.view_is) c.requires.rest in
      c.write_bar.ensures.rows 2 (omega arith) (λ e. cc) ∙ c.write_state.ensures.rows 2 (omega arith) (λ e. cc) ∙ ap (λ pixels. line_of pixels 2) c.show.ensures.chrome ∙ rest 2 (omega arith) none
      ∙ ap padded (sym (ap entry_line_text c.entry.ensures.value));
}
