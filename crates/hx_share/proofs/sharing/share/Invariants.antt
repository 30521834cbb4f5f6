use Rattle.hx_share.proofs.sharing.share.Given as goal

-- the script that was handed in
abbrev pub ghosts-share_plan : goal.ghosts-share_plan
ghosts-share_plan g a = record { script = a.script.now }
