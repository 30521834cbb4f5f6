-- A draft has what a report may have.
use Rattle.std.proofs.Common.{◌≡◌, ◌≢◌, ℕ, zero, suc, ◌+◌, ◌-◌, ◌^◌, ◌<◌, Bool, true, false, cond, List, [], ◌∷◌, ◌++◌}
use Rattle.std.proofs.Common.{length, eqb, Option, None, Some, inl, inr, refl, sym, ap, subst, ◌∙◌, arith}
use Rattle.std.specs.Prelude.{◌⊎◌, codes, is_some, nat_lt, ⊤}
use Rattle.std.specs.List.{All}
use Rattle.std.specs.Option.{option_map}
use Rattle.std.specs.Str.{bytes_eq}
use Rattle.std.proofs.lemmas.Bool.{eqb-true}
use Rattle.std.proofs.lemmas.List.{length-append}
use Rattle.std.proofs.lemmas.List.Elements.{All-nil, All-push}
use Rattle.hx_lex.specs.Spelling.{IsText}
use Rattle.hx_model.specs.Types.{Answer, Attribute, Row, Space}
use Rattle.hx_types.specs.declared.calls.Answer.TheVariants as an_answer
use Rattle.hx_types.specs.Spaces.{IsKind, IsName, IsSpace, IsSubspaceOf, KeyFits}
use Rattle.hx_law_texts.specs.Sayable.{BoundsAreSayable}
use Rattle.hx_types.specs.Words.{text_below}
use Rattle.hx_print.specs.Printing.{space_text}
use Rattle.hx_report_lines.specs.declared.blocks.Block.{Block}
use Rattle.hx_report_lines.specs.declared.blocks.DriverLine.{DriverLine}
use Rattle.hx_report_lines.specs.declared.call_lines.CallHead.{CallHead}
use Rattle.hx_report_lines.specs.declared.calls.CallLine.{CallLine}
use Rattle.hx_report_lines.specs.declared.drafts.Draft.{Draft}
use Rattle.hx_report_lines.specs.declared.drafts.Open.{Open}
use Rattle.hx_report_lines.specs.declared.drafts.Open.TheVariants as opens
use Rattle.hx_report_lines.specs.declared.drafts.Section.{Section}
use Rattle.hx_report_lines.specs.declared.drafts.Section.TheVariants as sections
use Rattle.hx_report_lines.specs.declared.epochs.EpochLine.{EpochLine}
use Rattle.hx_report_lines.specs.declared.histories.HistoryLines.{HistoryLines}
use Rattle.hx_report_lines.specs.declared.histories.ItemLine.{ItemLine}
use Rattle.hx_report_lines.specs.declared.kinds.Kind.{Kind}
use Rattle.hx_report_lines.specs.declared.kinds.Kind.TheVariants as kinds
use Rattle.hx_report_lines.specs.Calling.{head_of, row_of}
use Rattle.hx_report_lines.specs.Drafts.{after_line, begun, block_of, call_after, closed, driver_after, empty_draft}
use Rattle.hx_report_lines.specs.Drafts.{end_after, epoch_after, follows_caller, follows_epoch, follows_key, head_line}
use Rattle.hx_report_lines.specs.Drafts.{head_with, is_none, item_line_in, key_after, kind_of, last_of, line_in}
use Rattle.hx_report_lines.specs.Drafts.{line_of_kind, next_after, no_epochs, no_histories, no_raw, no_drivers}
use Rattle.hx_report_lines.specs.Drafts.{put_driver, put_epoch, put_head, put_key, put_raw, raw_after, row_line_in}
use Rattle.hx_report_lines.specs.Drafts.{settled, settled_from, value_of, version_line, version_of, with_call}
use Rattle.hx_report_lines.specs.Drafts.{with_history, with_rows, with_space}
use Rattle.hx_report_lines.specs.Parts.{item_of, key_of}
use Rattle.hx_report_lines.specs.Readers.{on_some}
use Rattle.hx_report_lines.specs.Tailing.{driver_of, epoch_of, raw_of, rest_of_head, space_of}
use Rattle.hx_report_lines.specs.Values.{HasBlocks, IsBlock, IsCallOf, IsDriverLine, IsEpochOf, IsHistoryOf, IsItemOf}
use Rattle.hx_report_lines.specs.Values.{IsRawLine, IsReportValue, IsSpaceValue, VersionFits, caller_below, has_end}
use Rattle.hx_report_lines.specs.Values.{is_after}
use Rattle.hx_report_lines.proofs.Ascending.{ascends_more}
use Rattle.hx_report_lines.proofs.CallsRead.{IsHead, IsRow, head_valid, row_valid}
use Rattle.hx_report_lines.proofs.ItemsRead.{item_valid, key_valid}
use Rattle.hx_report_lines.proofs.TailsRead.{driver_valid, epoch_valid, raw_valid, space_valid}
use Rattle.hx_report_lines.proofs.Taken.{bound, some_is, where_so}

-- ---- blocks, one item more

pub call_more : (b : Block) (c : CallLine) → IsBlock b → IsCallOf b.space c
    → is_after caller_below (option_map (λ (x : CallLine). x.caller) (last_of b.calls)) c.caller ≡ true
    → IsBlock (record b { calls = b.calls ++ c ∷ [] })
call_more b c is of follows = record {
  space = is.space;
  calls = All-push (IsCallOf b.space) b.calls c is.calls of;
  calls_ascend = ascends_more caller_below (λ (x : CallLine). x.caller) b.calls c is.calls_ascend follows;
  histories = is.histories;
  histories_ascend = is.histories_ascend;
  epochs = is.epochs;
  epochs_ascend = is.epochs_ascend;
  raw = is.raw;
  drivers = is.drivers;
}

pub history_more : (b : Block) (h : HistoryLines) → IsBlock b → IsHistoryOf b.space h
    → is_after text_below (option_map (λ (x : HistoryLines). x.key) (last_of b.histories)) h.key ≡ true
    → IsBlock (record b { histories = b.histories ++ h ∷ [] })
history_more b h is of follows = record {
  space = is.space;
  calls = is.calls;
  calls_ascend = is.calls_ascend;
  histories = All-push (IsHistoryOf b.space) b.histories h is.histories of;
  histories_ascend = ascends_more text_below (λ (x : HistoryLines). x.key) b.histories h is.histories_ascend follows;
  epochs = is.epochs;
  epochs_ascend = is.epochs_ascend;
  raw = is.raw;
  drivers = is.drivers;
}

epoch_more : (b : Block) (e : EpochLine) → IsBlock b → IsEpochOf b.space e
    → is_after nat_lt (option_map (λ (x : EpochLine). x.epoch.0) (last_of b.epochs)) e.epoch.0 ≡ true
    → IsBlock (record b { epochs = b.epochs ++ e ∷ [] })
epoch_more b e is of follows = record {
  space = is.space;
  calls = is.calls;
  calls_ascend = is.calls_ascend;
  histories = is.histories;
  histories_ascend = is.histories_ascend;
  epochs = All-push (IsEpochOf b.space) b.epochs e is.epochs of;
  epochs_ascend = ascends_more nat_lt (λ (x : EpochLine). x.epoch.0) b.epochs e is.epochs_ascend follows;
  raw = is.raw;
  drivers = is.drivers;
}

raw_more : (b : Block) (line : List ℕ) → IsBlock b → IsRawLine line → IsBlock (record b { raw = b.raw ++ line ∷ [] })
raw_more b line is of = record {
  space = is.space;
  calls = is.calls;
  calls_ascend = is.calls_ascend;
  histories = is.histories;
  histories_ascend = is.histories_ascend;
  epochs = is.epochs;
  epochs_ascend = is.epochs_ascend;
  raw = All-push IsRawLine b.raw line is.raw of;
  drivers = is.drivers;
}

driver_more : (b : Block) (d : DriverLine) → IsBlock b → IsDriverLine d → IsBlock (record b { drivers = b.drivers ++ d ∷ [] })
driver_more b d is of = record {
  space = is.space;
  calls = is.calls;
  calls_ascend = is.calls_ascend;
  histories = is.histories;
  histories_ascend = is.histories_ascend;
  epochs = is.epochs;
  epochs_ascend = is.epochs_ascend;
  raw = is.raw;
  drivers = All-push IsDriverLine b.drivers d is.drivers of;
}

pub block_begun : (space : Space) → IsSpaceValue space → IsBlock (block_of space)
block_begun space is = record {
  space = is;
  calls = All-nil (IsCallOf space);
  calls_ascend = tt;
  histories = All-nil (IsHistoryOf space);
  histories_ascend = tt;
  epochs = All-nil (IsEpochOf space);
  epochs_ascend = tt;
  raw = All-nil IsRawLine;
  drivers = All-nil IsDriverLine;
}

-- ---- what is pending

-- a call whose rows are wanted: they stand before all histories
pub record IsOpenCall (d : Draft) (c : CallLine) (rows : List Row) (left : ℕ) : Type 0 where
  pub call : IsCallOf d.block.space c
  pub answer : c.answer ≡ Some (an_answer.Rows [])
  pub all : All (IsRow d.block.space) rows
  pub few : length rows + left < 2 ^ 64
  pub follows : follows_caller d c.caller ≡ true
  pub before : no_histories d ≡ true

pub record IsOpenHistory (d : Draft) (key : List ℕ) (items : List ItemLine) : Type 0 where
  pub fits : KeyFits key
  pub said : IsText key
  pub all : All (IsItemOf d.block.space) items
  pub follows : follows_key d key ≡ true
  pub before : no_epochs d ≡ true

abbrev pub IsOpen : Draft → Open → Type 0
IsOpen d opens.Nothing = ⊤
IsOpen d (opens.Rows c rows left) = IsOpenCall d c rows left
IsOpen d (opens.History key items) = IsOpenHistory d key items

-- so many blocks stand before another one
abbrev pub MayFollow : ℕ → List Block → Type 0
MayFollow version blocks = ((version ≡ 1) × (blocks ≡ [])) ⊎ (version ≡ 2)

pub record HasFront (d : Draft) : Type 0 where
  pub version : MayFollow d.version d.blocks
  pub blocks : All IsBlock d.blocks

pub record HasBody (d : Draft) : Type 0 where
  pub front : HasFront d
  pub block : IsBlock d.block
  pub pending : IsOpen d d.pending

pub record HasAll (d : Draft) : Type 0 where
  pub count : HasBlocks d.version d.blocks
  pub blocks : All IsBlock d.blocks

-- some space begins with these lines
abbrev pub HeadOpens : List ℕ → Type 0
HeadOpens head = (space : Space) × IsSpaceValue space × ((rest : List ℕ) × (space_text space ≡ head ++ rest))

abbrev pub IsGoodIn : Draft → Section → Type 0
IsGoodIn d sections.Start = (d.blocks ≡ []) × (d.head ≡ [])
IsGoodIn d sections.Head = HasFront d × HeadOpens d.head
IsGoodIn d sections.Body = HasBody d
IsGoodIn d sections.Over = HasAll d

pub record IsGood (d : Draft) : Type 0 where
  pub good : IsGoodIn d d.section

-- a body, where nothing is pending
pub record IsSettled (d : Draft) : Type 0 where
  pub body : HasBody d
  pub section : d.section ≡ sections.Body
  pub nothing : d.pending ≡ opens.Nothing

pub rows_called : (space : Space) (c : CallLine) (rows : List Row) → IsCallOf space c
    → c.answer ≡ Some (an_answer.Rows []) → All (IsRow space) rows → length rows < 2 ^ 64 → IsCallOf space (with_rows c rows)
rows_called space c rows is same all few = record {
  caller = is.caller;
  begin = is.begin;
  end = is.end;
  ended = subst (λ (o : Option Answer). is_some c.end ≡ has_end o) same is.ended;
  op = is.op;
  said = is.said;
  version = subst (λ (o : Option Answer). VersionFits o c.version) same is.version;
  answer = ((λ k d lt. (all k d lt).of), (few, (λ k d lt. (all k d lt).said)));
}

some_items : (key : List ℕ) (items : List ItemLine) → is_none items ≡ false → items ≢ []
some_items key items h e = absurd (let q : is_none items ≡ true = ap is_none e in let r : true ≡ false = sym q ∙ h in cc)

settled_by : (d e : Draft) (o : Open) → d.section ≡ sections.Body → HasFront d → IsBlock d.block → IsOpen d o → settled_from d o ≡ Some e → IsSettled e
settled_by d e opens.Nothing body front is pending h =
    subst IsSettled (some_is (record d { pending = opens.Nothing }) e h)
    (record {
      body = record {
        front = record { version = front.version; blocks = front.blocks };
        block = is;
        pending = tt;
      };
      section = body;
      nothing = refl;
    })
settled_by d e (opens.Rows c rows left) body front is pending h =
    let w = where_so (eqb left 0) (Some (with_call d (with_rows c rows))) e h in
    let none : left ≡ 0 = eqb-true left 0 w.0 in
    let few : length rows < 2 ^ 64 = omega (arith, pending.few) in
    subst IsSettled (some_is (with_call d (with_rows c rows)) e w.1) (record {
      body = record {
        front = record { version = front.version; blocks = front.blocks };
        block = call_more d.block (with_rows c rows) is (rows_called d.block.space c rows pending.call pending.answer pending.all few) pending.follows;
        pending = tt;
      };
      section = body;
      nothing = refl;
    })
settled_by d e (opens.History key items) body front is pending h = by (is_none items) refl h
  where
    by : (b : Bool) → is_none items ≡ b → cond b None (Some (with_history d (record { key = key; items = items }))) ≡ Some e → IsSettled e
    by true q f = absurd cc
    by false q f = subst IsSettled (some_is (with_history d (record { key = key; items = items })) e f) (record {
      body = record {
        front = record { version = front.version; blocks = front.blocks };
        block = history_more d.block (record { key = key; items = items }) is
            (record { key = pending.fits; said = pending.said; some = some_items key items q; items = pending.all })
            pending.follows;
        pending = tt;
      };
      section = body;
      nothing = refl;
    })

pub settles : (d e : Draft) → d.section ≡ sections.Body → HasBody d → settled d ≡ Some e → IsSettled e
settles d e body is h = settled_by d e d.pending body is.front is.block is.pending h

-- ---- lines of a block

in_body : (e : Draft) → e.section ≡ sections.Body → HasBody e → IsGood e
in_body e body is = record { good = subst (IsGoodIn e) (sym body) is }

-- a body whose block is another
body_with : (d : Draft) (b : Block) → IsSettled d → IsBlock b → HasBody (record d { block = b })
body_with d b is good = record {
  front = record { version = is.body.front.version; blocks = is.body.front.blocks };
  block = good;
  pending = subst (IsOpen (record d { block = b })) (sym is.nothing) tt;
}

call_good : (d e : Draft) (line : List ℕ) → IsSettled d → call_after line d ≡ Some e → IsGood e
call_good d e line is h =
    let w = where_so (no_histories d) (on_some (head_of d.block.space line) (put_head d)) e h in
    let b = bound (head_of d.block.space line) (put_head d) e w.1 in
    let v = head_valid d.block.space line b.0 is.body.block.space.valid b.1 in
    let f = where_so (follows_caller d b.0.call.caller) (Some (begun d b.0 b.0.call.answer)) e b.2 in
    by b.0 v.0 f.0 w.0 b.0.call.answer refl f.1
  where
    plain : (x : CallHead) → IsHead d.block.space x → follows_caller d x.call.caller ≡ true → Some (with_call d x.call) ≡ Some e → IsGood e
    plain x v f g = subst IsGood (some_is (with_call d x.call) e g) (in_body (with_call d x.call) is.section (record {
      front = record { version = is.body.front.version; blocks = is.body.front.blocks };
      block = call_more d.block x.call is.body.block v.call f;
      pending = tt;
    }))

    waiting : (x : CallHead) → IsHead d.block.space x → follows_caller d x.call.caller ≡ true → no_histories d ≡ true
        → x.call.answer ≡ Some (an_answer.Rows []) → Some (record d { pending = opens.Rows x.call [] x.rows }) ≡ Some e → IsGood e
    waiting x v f none a g =
        subst IsGood (some_is (record d { pending = opens.Rows x.call [] x.rows }) e g)
        (in_body (record d { pending = opens.Rows x.call [] x.rows }) is.section (record {
          front = record { version = is.body.front.version; blocks = is.body.front.blocks };
          block = is.body.block;
          pending = record { call = v.call; answer = a; all = All-nil (IsRow d.block.space); few = omega (arith, v.rows); follows = f; before = none };
        }))

    by : (x : CallHead) → IsHead d.block.space x → follows_caller d x.call.caller ≡ true → no_histories d ≡ true
        → (o : Option Answer) → x.call.answer ≡ o → Some (begun d x o) ≡ Some e → IsGood e
    by x v f none None q g = plain x v f g
    by x v f none (Some (an_answer.Rows rows)) q g = waiting x v f none (q ∙ ap (λ (rs : List Row). Some (an_answer.Rows rs)) (v.bare rows q)) g
    by x v f none (Some other) q g = plain x v f g

pub not_none : (n : ℕ) → eqb n 0 ≡ false → 0 < n
not_none zero q = absurd cc
not_none (suc n) q = omega arith

row_good : (d e : Draft) (line : List ℕ) (o : Open) → d.section ≡ sections.Body → HasFront d → IsBlock d.block
    → IsOpen d o → row_line_in d line o ≡ Some e → IsGood e
row_good d e line opens.Nothing body front is pending h = absurd cc
row_good d e line (opens.History key items) body front is pending h = absurd cc
row_good d e line (opens.Rows c rows left) body front is pending h = by (eqb left 0) refl h
  where
    by : (b : Bool) → eqb left 0 ≡ b → cond b None
        (on_some (row_of d.block.space line) (λ r. Some
        (record d { pending = opens.Rows c (rows ++ r ∷ []) (left - 1) }))) ≡ Some e → IsGood e
    by true q f = absurd cc
    by false q f =
        let b = bound (row_of d.block.space line) (λ r. Some (record d { pending = opens.Rows c (rows ++ r ∷ []) (left - 1) })) e f in
        let v = row_valid d.block.space line b.0 is.space.valid b.1 in
        let some : 0 < left = not_none left q in
        subst IsGood (some_is (record d { pending = opens.Rows c (rows ++ b.0 ∷ []) (left - 1) }) e b.2)
        (in_body (record d { pending = opens.Rows c (rows ++ b.0 ∷ []) (left - 1) }) body (record {
          front = record { version = front.version; blocks = front.blocks };
          block = is;
          pending = record {
            call = pending.call;
            answer = pending.answer;
            all = All-push (IsRow d.block.space) rows b.0 pending.all v.0;
            few = omega (arith, pending.few, length-append rows (b.0 ∷ []), some);
            follows = pending.follows;
            before = pending.before;
          };
        }))

key_good : (d e : Draft) (line : List ℕ) → IsSettled d → key_after line d ≡ Some e → IsGood e
key_good d e line is h =
    let w = where_so (no_epochs d) (on_some (key_of d.block.space line) (put_key d)) e h in
    let b = bound (key_of d.block.space line) (put_key d) e w.1 in
    let v = key_valid d.block.space line b.0 is.body.block.space.valid b.1 in
    let f = where_so (follows_key d b.0) (Some (record d { pending = opens.History b.0 [] })) e b.2 in
    subst IsGood (some_is (record d { pending = opens.History b.0 [] }) e f.1) (in_body (record d { pending = opens.History b.0 [] }) is.section (record {
      front = record { version = is.body.front.version; blocks = is.body.front.blocks };
      block = is.body.block;
      pending = record { fits = v.0.0; said = v.0.1; all = All-nil (IsItemOf d.block.space); follows = f.0; before = w.0 };
    }))

item_good : (d e : Draft) (line : List ℕ) (o : Open) → d.section ≡ sections.Body → HasFront d → IsBlock d.block
    → IsOpen d o → item_line_in d line o ≡ Some e → IsGood e
item_good d e line opens.Nothing body front is pending h = absurd cc
item_good d e line (opens.Rows c rows left) body front is pending h = absurd cc
item_good d e line (opens.History key items) body front is pending h =
    let b = bound (item_of d.block.space line) (λ x. Some (record d { pending = opens.History key (items ++ x ∷ []) })) e h in
    let v = item_valid d.block.space line b.0 is.space.valid b.1 in
    subst IsGood (some_is (record d { pending = opens.History key (items ++ b.0 ∷ []) }) e b.2)
    (in_body (record d { pending = opens.History key (items ++ b.0 ∷ []) }) body (record {
      front = record { version = front.version; blocks = front.blocks };
      block = is;
      pending = record {
        fits = pending.fits;
        said = pending.said;
        all = All-push (IsItemOf d.block.space) items b.0 pending.all v.0;
        follows = pending.follows;
        before = pending.before;
      };
    }))

epoch_good : (d e : Draft) (line : List ℕ) → IsSettled d → epoch_after line d ≡ Some e → IsGood e
epoch_good d e line is h =
    let w = where_so (no_raw d) (on_some (epoch_of d.block.space line) (put_epoch d)) e h in
    let b = bound (epoch_of d.block.space line) (put_epoch d) e w.1 in
    let v = epoch_valid d.block.space line b.0 b.1 in
    let new : Block = record d.block { epochs = d.block.epochs ++ b.0 ∷ [] } in
    let f = where_so (follows_epoch d b.0.epoch.0) (Some (record d { block = new })) e b.2 in
    subst IsGood (some_is (record d { block = new }) e f.1)
    (in_body (record d { block = new }) is.section (body_with d new is (epoch_more d.block b.0 is.body.block v.0 f.0)))

-- a line of a text has no newline
abbrev pub IsOneLine : List ℕ → Type 0
IsOneLine line = All (λ b. b ≢ 10) line

raw_good : (d e : Draft) (line : List ℕ) → IsOneLine line → IsSettled d → raw_after line d ≡ Some e → IsGood e
raw_good d e line one is h =
    let w = where_so (no_drivers d) (on_some (raw_of line) (put_raw d)) e h in
    let b = bound (raw_of line) (put_raw d) e w.1 in
    let v = raw_valid line b.0 b.1 in
    let new : Block = record d.block { raw = d.block.raw ++ b.0 ∷ [] } in
    let raw : IsRawLine b.0 = record { begins = v.0.begins; one_line = subst IsOneLine (sym v.1) one; utf8 = v.0.utf8 } in
    subst IsGood (some_is (record d { block = new }) e b.2)
    (in_body (record d { block = new }) is.section (body_with d new is (raw_more d.block b.0 is.body.block raw)))

driver_good : (d e : Draft) (line : List ℕ) → IsSettled d → driver_after line d ≡ Some e → IsGood e
driver_good d e line is h =
    let b = bound (driver_of line) (put_driver d) e h in
    let v = driver_valid line b.0 b.1 in
    let new : Block = record d.block { drivers = d.block.drivers ++ b.0 ∷ [] } in
    subst IsGood (some_is (record d { block = new }) e b.2)
    (in_body (record d { block = new }) is.section (body_with d new is (driver_more d.block b.0 is.body.block v.0)))

-- ---- lines of the space, and between blocks

head_good : (d e : Draft) (line : List ℕ) → HasFront d → head_line d line ≡ Some e → IsGood e
head_good d e line front h =
    let r = bound (rest_of_head line) (head_with d (d.head ++ line ++ 10 ∷ [])) e h in
    let s = bound (space_of ((d.head ++ line ++ 10 ∷ []) ++ r.0)) (λ space. Some (with_space d (d.head ++ line ++ 10 ∷ []) r.0 space)) e r.2 in
    by r.0 s.0 (space_valid ((d.head ++ line ++ 10 ∷ []) ++ r.0) s.0 s.1) (some_is (with_space d (d.head ++ line ++ 10 ∷ []) r.0 s.0) e s.2)
  where
    by : (rest : List ℕ) (space : Space) → IsSpaceValue space
        × (space_text space ≡ (d.head ++ line ++ 10 ∷ []) ++ rest)
        → with_space d (d.head ++ line ++ 10 ∷ []) rest space ≡ e → IsGood e
    by [] space v q = subst IsGood q (record {
      good =
          record {
            front = record { version = front.version; blocks = front.blocks };
            block = block_begun space v.0;
            pending = tt;
          };
    })
    by (b ∷ rest) space v q = subst IsGood q (record { good = (record { version = front.version; blocks = front.blocks }, (space, v.0, (b ∷ rest, v.1))) })

blocks_more : (d : Draft) → IsSettled d → All IsBlock (d.blocks ++ d.block ∷ [])
blocks_more d is = All-push IsBlock d.blocks d.block is.body.front.blocks is.body.block

pub counted : (version : ℕ) (blocks : List Block) (b : Block) → MayFollow version blocks → HasBlocks version (blocks ++ b ∷ [])
counted version blocks b (inl one) = inl (one.0, ap (λ (bs : List Block). length (bs ++ b ∷ [])) one.1)
counted version blocks b (inr two) = inr (two, omega (arith, length-append blocks (b ∷ [])))

end_good : (d e : Draft) (line : List ℕ) → IsSettled d → end_after line d ≡ Some e → IsGood e
end_good d e line is h =
    let w = where_so (bytes_eq line (codes "end")) (Some (record (closed d) { section = sections.Over })) e h in
    subst IsGood (some_is (record (closed d) { section = sections.Over }) e w.1)
    (record { good = record { count = counted d.version d.blocks d.block is.body.front.version; blocks = blocks_more d is } })

next_good : (d e : Draft) (line : List ℕ) → IsSettled d → next_after line d ≡ Some e → IsGood e
next_good d e line is h =
    let w = where_so (eqb d.version 2) (head_line (closed d) line) e h in
    head_good (closed d) e line (record { version = inr (eqb-true d.version 2 w.0); blocks = blocks_more d is }) w.1

-- the least space
abbrev pub least_space : Space
least_space = record { name = codes "a"; key_name = codes "k"; key_parts = 1; attributes = []; subspaces = []; servers = 1; tolerate = 0 }

pub least_fits : IsSpaceValue least_space
least_fits = record {
  valid = record {
    name = record { word = refl; short = omega arith; not_if = λ p. cc; not_set = λ p. cc };
    key_name = record { word = refl; short = omega arith; not_if = λ p. cc; not_set = λ p. cc };
    names = All-nil (λ (a : Attribute). IsName a.name × IsKind a.kind);
    names_differ = (All-nil (λ (m : List ℕ). m ≢ (107 ∷ [])), tt);
    attributes = omega arith;
    key_parts = (omega arith, omega arith);
    subspaces = All-nil (IsSubspaceOf least_space);
    few_subspaces = omega arith;
    regions = omega arith;
    servers = (omega arith, omega arith);
    tolerate = (omega arith, omega arith);
  };
  bounds = All-nil (λ (a : Attribute). BoundsAreSayable a.kind);
}

version_good : (d e : Draft) (line : List ℕ) → d.blocks ≡ [] → d.head ≡ [] → version_line d line ≡ Some e → IsGood e
version_good d e line none empty h =
    let b = bound (version_of line) (λ version. Some (record d { section = sections.Head; version = version })) e h in
    subst IsGood (some_is (record d { section = sections.Head; version = b.0 }) e b.2)
    (record {
      good = (
        record {
          version = by (bytes_eq line (codes "report 1")) b.1;
          blocks = subst (All IsBlock) (sym none) (All-nil IsBlock);
        },
        subst HeadOpens (sym empty) (least_space, least_fits, (space_text least_space, refl)),
      );
    })
  where
    two : (b : Bool) (n : ℕ) → cond b (Some 2) None ≡ Some n → MayFollow n d.blocks
    two true n q = inr (sym (some_is 2 n q))
    two false n q = absurd cc

    by : {n : ℕ} (b : Bool) → cond b (Some 1) (cond (bytes_eq line (codes "report 2")) (Some 2) None) ≡ Some n → MayFollow n d.blocks
    by {n} true q = inl (sym (some_is 1 n q), none)
    by {n} false q = two (bytes_eq line (codes "report 2")) n q

-- ---- all lines

of_kind : (d e : Draft) (line : List ℕ) (k : Kind) → IsOneLine line → d.section ≡ sections.Body → HasBody d → line_of_kind d line k ≡ Some e → IsGood e
of_kind d e line kinds.Call one body is h = let b = bound (settled d) (call_after line) e h in call_good b.0 e line (settles d b.0 body is b.1) b.2
of_kind d e line kinds.Row one body is h = row_good d e line d.pending body is.front is.block is.pending h
of_kind d e line kinds.History one body is h = let b = bound (settled d) (key_after line) e h in key_good b.0 e line (settles d b.0 body is b.1) b.2
of_kind d e line kinds.Item one body is h = item_good d e line d.pending body is.front is.block is.pending h
of_kind d e line kinds.Epoch one body is h = let b = bound (settled d) (epoch_after line) e h in epoch_good b.0 e line (settles d b.0 body is b.1) b.2
of_kind d e line kinds.Raw one body is h = let b = bound (settled d) (raw_after line) e h in raw_good b.0 e line one (settles d b.0 body is b.1) b.2
of_kind d e line kinds.Driver one body is h = let b = bound (settled d) (driver_after line) e h in driver_good b.0 e line (settles d b.0 body is b.1) b.2
of_kind d e line kinds.Space one body is h = let b = bound (settled d) (next_after line) e h in next_good b.0 e line (settles d b.0 body is b.1) b.2
of_kind d e line kinds.End one body is h = let b = bound (settled d) (end_after line) e h in end_good b.0 e line (settles d b.0 body is b.1) b.2

good_in : (d e : Draft) (line : List ℕ) (s : Section) → d.section ≡ s → IsOneLine line → IsGoodIn d s → line_in d line s ≡ Some e → IsGood e
good_in d e line sections.Start q one is h = version_good d e line is.0 is.1 h
good_in d e line sections.Head q one is h = head_good d e line is.0 h
good_in d e line sections.Body q one is h = let b = bound (kind_of line) (line_of_kind d line) e h in of_kind d e line b.0 one q is b.2
good_in d e line sections.Over q one is h = absurd cc

-- a line more
pub good_more : (d e : Draft) (line : List ℕ) → IsOneLine line → IsGood d → after_line d line ≡ Some e → IsGood e
good_more d e line one is h = good_in d e line d.section refl one is.good h

pub good_space : (d : Draft) → IsGood d → d.section ≡ sections.Body → IsSpace d.block.space
good_space d is body = let b : HasBody d = subst (IsGoodIn d) body is.good in b.block.space.valid

pub good_whole : (d : Draft) → IsGood d → d.section ≡ sections.Over → HasAll d
good_whole d is over = subst (IsGoodIn d) over is.good

pub good_start : IsGood empty_draft
good_start = record { good = (refl, refl) }

pub good_value : (d : Draft) → IsGood d → d.section ≡ sections.Over → IsReportValue (value_of d)
good_value d is over = let all = good_whole d is over in record { count = all.count; blocks = all.blocks }
