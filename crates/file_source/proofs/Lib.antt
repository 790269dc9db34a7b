mod Filing
