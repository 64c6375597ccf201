-- 02 §3: free cells counted as they go.
pub mod Counting
