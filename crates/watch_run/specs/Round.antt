-- How many filters and workers a run has (this project's profile).
use Rattle.std.specs.Prelude.{ℕ, ◌≤◌, length}
use Rattle.watch_run.specs.Filters.{Making}
use Rattle.filter_workers.specs.declared.decision.TheConstants.{MAX_FILTERS}
use Rattle.worker_pool.specs.declared.pool.TheConstants.{MAX_WORKERS}

-- how many filters a run has, and how many workers
abbrev pub IsFilterCount : ℕ → Type 0
IsFilterCount n = (1 ≤ n) × (n ≤ MAX_FILTERS)

abbrev pub IsWorkerCount : ℕ → Type 0
IsWorkerCount n = (1 ≤ n) × (n ≤ MAX_WORKERS)

-- 1 to 8 filters run on 1 to 8 workers
abbrev pub CanRun : Making → ℕ → Type 0
CanRun ps workers = IsFilterCount (length ps.filters) × IsWorkerCount workers
