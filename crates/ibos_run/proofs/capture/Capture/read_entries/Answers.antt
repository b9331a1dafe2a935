use Rattle.std.proofs.Common.{◌≡◌, ◌+◌, ◌-◌, ◌≤◌, ◌<◌, ◌∙◌, arith, length}
use Rattle.std.proofs.lemmas.Bool.Decides.{nat_tests}
use Rattle.ibos_run.proofs.Captures.{frames_short, header_is, no_header, refused_as}
use Rattle.ibos_run.proofs.capture.Capture.read_entries.Goals as goal
use Rattle.ibos_run.proofs.capture.Capture.read_entries.Goals.{then-end-gt-MAX_CAPTURE-via-then-end-gt-MAX_CAPTURE, then-end-gt-MAX_CAPTURE-via-else-end-gt-MAX_CAPTURE+in_ok-has_byte+then-not-branch}

pub returns-then-is_empty-clause-read : goal.returns-then-is_empty-clause-read
returns-then-is_empty-clause-read g c = λ file held from of.
    let read = c.entries.invariant.read file held from of in
    let shows = c.in_ok-look.ensures.shows file (c.entries.invariant.holds c.args.name.now ∙ held) (c.entries.invariant.of file held from of) in
    let front = header_is file c.entries.reader _ _ _ c.place-place.ensures.place c.in_ok-look.ensures.at shows c.front-header.ensures in
    let none : length c.front-header.result.now ≡ 0 = grind (arith, nat_tests, c.is_empty.ensures, c.if-is_empty.true) in
    (frames_short file read.limit ∙ c.finish-index.ensures.frames file read (no_header file _ _ front none), shows.of)

pub returns-in-Err-clause-read : goal.returns-in-Err-clause-read
returns-in-Err-clause-read g c = λ file held from of.
    let read = c.entries.invariant.read file held from of in
    let shows = c.in_ok-look.ensures.shows file (c.entries.invariant.holds c.args.name.now ∙ held) (c.entries.invariant.of file held from of) in
    let front = header_is file c.entries.reader _ _ _ c.place-place.ensures.place c.in_ok-look.ensures.at shows c.front-header.ensures in
    refused_as file c.in-Err.fault read.limit (c.in-Err.ensures.refused file read front)

pub returns-then-end-gt-MAX_CAPTURE-clause-read : goal.returns-then-end-gt-MAX_CAPTURE-clause-read
returns-then-end-gt-MAX_CAPTURE-clause-read g c = λ file held from of.
    let read = c.entries.invariant.read file held from of in
    let told = c.entries.invariant.holds c.args.name.now ∙ held in
    let shows = c.in_ok-look.ensures.shows file told (c.entries.invariant.of file held from of) in
    let front = header_is file c.entries.reader _ _ _ c.place-place.ensures.place c.in_ok-look.ensures.at shows c.front-header.ensures in
    let cut : length file < c.entries.reader.place + 16 + c.in-Ok.len = elim c.then-end-gt-MAX_CAPTURE.branch [
      | then-end-gt-MAX_CAPTURE-via-then-end-gt-MAX_CAPTURE w ↦ omega (arith, read.limit, c.place-place.ensures.place, w.if-end-gt-MAX_CAPTURE.true)
      | then-end-gt-MAX_CAPTURE-via-else-end-gt-MAX_CAPTURE+in_ok-has_byte+then-not-branch w ↦
          let has = w.in_ok-has_byte.ensures.has file (c.look.ensures.holds c.args.name.now ∙ told) shows.of in
          let none : length file ≤ c.place-place.result + 16 + c.in-Ok.len - 1 = grind (arith, nat_tests, has, w.if-not-branch.true) in
          omega (arith, none, c.place-place.ensures.place)
    ] in
    refused_as file c.cut.result read.limit (c.cut.ensures.refused file c.in-Ok.len read (c.in-Ok.ensures.len file front) cut)

pub entries-preserved : goal.entries-preserved
entries-preserved g c = record {
  limit = omega (arith, c.in_ok-push.ensures.place, c.place-place.ensures.place, c.if-end-gt-MAX_CAPTURE.false);
  read = λ file held from of.
      let read = c.entries.invariant.read file held from of in
      let told = c.entries.invariant.holds c.args.name.now ∙ held in
      let shows = c.in_ok-look.ensures.shows file told (c.entries.invariant.of file held from of) in
      let front = header_is file c.entries.reader _ _ _ c.place-place.ensures.place c.in_ok-look.ensures.at shows c.front-header.ensures in
      let has = c.in_ok-has_byte.ensures.has file (c.look.ensures.holds c.args.name.now ∙ told) shows.of in
      let some : c.place-place.result + 16 + c.in-Ok.len - 1 < length file = grind (arith, nat_tests, has, c.if-not-branch.false) in
      c.in_ok-push.ensures.pushed file read (c.in-Ok.ensures.len file front) (omega (arith, some, c.place-place.ensures.place));
  of = λ file held from of.
      let told = c.entries.invariant.holds c.args.name.now ∙ held in
      let shows = c.in_ok-look.ensures.shows file told (c.entries.invariant.of file held from of) in
      c.in_ok-has_byte.ensures.of file (c.look.ensures.holds c.args.name.now ∙ told) shows.of;
  holds = λ name. c.has_byte.ensures.holds name ∙ c.look.ensures.holds name ∙ c.entries.invariant.holds name;
  later = λ name. omega (arith, c.has_byte.ensures.later name, c.look.ensures.later name, c.entries.invariant.later name);
}
